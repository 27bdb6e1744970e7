-- What some schedule does after a fault, one does before it, of fewer chunks and in no fewer rounds.
use Rattle.std.proofs.{lemmas.{Bool.Decides.nat_tests, Grind.common_steps}, Common.{ℕ, ◌+◌, ◌*◌, ◌≤◌, Bool, true, false, subst, sym, arith}}
use Rattle.schedule.specs.{Links.TopologyValue, Placed.PlacementValue, Judging.group_at, Solving.Solvable, Summing.SummedSolvable}
use Rattle.collective_spec.{specs.{declared.spec.Spec.Spec, Collectives.{chunks_of, spec_instance, spec_demand, layout_after, adds_up}, Layouts.stands, Patterns.in_copies}, proofs.Chunks.chunks_more}
use Rattle.collective_spec.specs.declared.spec.Spec.TheVariants as spec
use Rattle.candidate_order.{specs.{declared.candidate.Candidate.Candidate, Frontiers.{QuestionValue, IsSolvable}}, proofs.Achieved.{Achievable, achieved, solvable_by_one}}
use Rattle.link_faults.{specs.{Narrowed.narrowed, Carrying.{Carries, HasFewRounds, narrowed_question}}, proofs.{Fitting.fits_before, Fewer.solvable_fewer, Sums.summed_fewer}}

pub solvable_before : (t : TopologyValue) (g w : ℕ) (pre post : PlacementValue) (steps rounds : ℕ) → w ≤ (group_at t g).width → Solvable (narrowed t g w) pre post steps rounds → Solvable t pre post steps rounds
solvable_before t g w pre post steps rounds less solvable =
    let solves = solvable.solves in
    record {
      schedule = solvable.schedule;
      valid = solvable.valid;
      in_range = solvable.in_range;
      solves = record { steps_are = solves.steps_are; rounds_are = solves.rounds_are; fits = fits_before t g w solvable.schedule less solves.fits; delivers = solves.delivers };
    }

pub summed_before : (t : TopologyValue) (g w : ℕ) (demand : PlacementValue) (steps rounds : ℕ) → w ≤ (group_at t g).width → SummedSolvable (narrowed t g w) demand steps rounds → SummedSolvable t demand steps rounds
summed_before t g w demand steps rounds less solvable =
    let sums = solvable.sums in
    record {
      schedule = solvable.schedule;
      valid = solvable.valid;
      in_range = solvable.in_range;
      sums = record { steps_are = sums.steps_are; rounds_are = sums.rounds_are; fits = fits_before t g w solvable.schedule less sums.fits; sums = sums.sums };
    }

module _ (t : TopologyValue) (nodes c d steps rounds more_rounds : ℕ) (fewer : c ≤ d) (longer : rounds ≤ more_rounds) (few : more_rounds ≤ steps + 8) where
  pub solvable_carried : (s : Spec) → Solvable t (spec_instance s nodes d).pre (spec_instance s nodes d).post steps rounds → Solvable t (spec_instance s nodes c).pre (spec_instance s nodes c).post steps more_rounds
  solvable_carried (spec.Standard collective) solvable = grind (arith, nat_tests, common_steps, solvable_fewer, chunks_more)
  solvable_carried (spec.Custom p) solvable =
      solvable_fewer t (p.base * c) (p.base * d) nodes (in_copies p.base p.before) (in_copies p.base p.after) steps rounds more_rounds (chunks_more (spec.Custom p) nodes c d fewer) longer few solvable

  pub summed_carried : (s : Spec) → SummedSolvable t (spec_demand s nodes d) steps rounds → SummedSolvable t (spec_demand s nodes c) steps more_rounds
  summed_carried (spec.Standard collective) solvable =
      summed_fewer t (chunks_of collective.kind nodes c) (chunks_of collective.kind nodes d) nodes (stands (layout_after collective.kind collective.root) nodes) steps rounds more_rounds (chunks_more (spec.Standard collective) nodes c d fewer) longer few solvable
  summed_carried (spec.Custom p) solvable =
      summed_fewer t (p.base * c) (p.base * d) nodes (in_copies p.base p.after) steps rounds more_rounds (chunks_more (spec.Custom p) nodes c d fewer) longer few solvable

-- what b has after the fault, a has before it
pub carried : (q : QuestionValue) (g w : ℕ) (a b : Candidate) → w ≤ (group_at q.topology g).width → HasFewRounds a → Carries a b → IsSolvable (narrowed_question q g w) b → IsSolvable q a
carried q g w a b less few carries some = solvable_by_one q a (of_kind (adds_up q.spec) (achieved (narrowed_question q g w) b some))
  where
    of_kind : (adds : Bool) → Achievable adds (narrowed_question q g w) b → Achievable adds q a
    of_kind true solvable =
        let back : SummedSolvable q.topology (spec_demand q.spec q.topology.nodes b.c) b.s b.r = summed_before q.topology g w (spec_demand q.spec q.topology.nodes b.c) b.s b.r less solvable in
        subst (λ s. SummedSolvable q.topology (spec_demand q.spec q.topology.nodes a.c) s a.r) (sym carries.0)
        (summed_carried q.topology q.topology.nodes a.c b.c b.s b.r a.r carries.2 carries.1 (omega (arith, few, carries.0)) q.spec back)
    of_kind false solvable =
        let i = spec_instance q.spec q.topology.nodes b.c in
        let j = spec_instance q.spec q.topology.nodes a.c in
        let back : Solvable q.topology i.pre i.post b.s b.r = solvable_before q.topology g w i.pre i.post b.s b.r less solvable in
        subst (λ s. Solvable q.topology j.pre j.post s a.r) (sym carries.0)
        (solvable_carried q.topology q.topology.nodes a.c b.c b.s b.r a.r carries.2 carries.1 (omega (arith, few, carries.0)) q.spec back)
