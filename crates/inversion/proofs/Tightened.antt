-- Where some schedule solves an instance, one that wastes no send does; so where chunks can be brought everywhere, their sums can be had.
use Rattle.std.{proofs.{Common.{◌≡◌, ℕ, ◌-◌, ◌*◌, ◌≤◌, true, ◌&&◌, eqb, length, sym, subst, arith, ◌↔◌, filter}, lemmas.List.Elements.{All-from_recursion, All-weaker, recursion_from_All}}, specs.List.All}
use Rattle.schedule.specs.{declared.hop.Hop.Hop, Links.{GroupValue, TopologyValue, has_link, is_usable, reversed_of}, Summing.SummedSolvable, Sends.{ScheduleValue, IsSchedule, IsInRange, IsStep, hop_before, is_hop_below, link_of}}
use Rattle.schedule.specs.{Fitting.{Fits, load, rounds_at}, Placed.{PlacementValue, HeldByOne, IsPlacement, holds}, Solving.{Solvable, Solves, Tight}, Inverse.inverse_of, Rows.everywhere}
use Rattle.schedule.proofs.{First.{InOrder-filter, InOrder-from_pairs, each_filter, each_weaker}, Inverted.inverse_sums, Inverting.{inverse_in_range, pairs_from_InOrder, valid_inverse}}
use Rattle.inversion.{specs.Reductions.{HeldBySome, is_useful, tightened}, proofs.{Delivering.solvable_back, Firsts.{counted_firsts, counted_kept, each_first, once_firsts, ordered_firsts}, Tightening.{kept_useful, same_after, useful_is}}}

-- what each send has, each that is kept has
each_kept : (P : Hop → Type 0) (pre : PlacementValue) (s : ScheduleValue) → All P s.sends → All P (tightened pre s).sends
each_kept P pre s all =
    All-from_recursion P (tightened pre s).sends (each_first P (filter (is_useful pre s) s.sends) (each_filter P (is_useful pre s) s.sends (recursion_from_All P s.sends all)))

pub valid_tightened : (pre : PlacementValue) (s : ScheduleValue) → IsSchedule s → IsSchedule (tightened pre s)
valid_tightened pre s valid = record {
  some = valid.some;
  few = valid.few;
  rounds = valid.rounds;
  steps = each_kept (λ h. IsStep (length s.rounds) h.step) pre s valid.steps;
  ascending = pairs_from_InOrder (tightened pre s).sends (ordered_firsts hop_before (filter (is_useful pre s) s.sends) (InOrder-filter hop_before (is_useful pre s) s.sends (InOrder-from_pairs hop_before s.sends valid.ascending)));
}

pub in_range_tightened : (pre : PlacementValue) (s : ScheduleValue) (chunks nodes : ℕ) → IsInRange chunks nodes s → IsInRange chunks nodes (tightened pre s)
in_range_tightened pre s chunks nodes in_range = each_kept (λ h. is_hop_below chunks nodes h ≡ true) pre s in_range

-- each group carries no more
pub fits_tightened : (t : TopologyValue) (pre : PlacementValue) (s : ScheduleValue) → Fits t s → Fits t (tightened pre s)
fits_tightened t pre s fits = record {
  usable = each_kept (λ h. is_usable t (link_of h) ≡ true) pre s fits.usable;
  within = λ step from to. All-weaker (λ group. load group step s.sends ≤ group.width * rounds_at s step) (λ group. load group step (tightened pre s).sends ≤ group.width * rounds_at s step) (λ group small. fewer group step (group.width * rounds_at s step) small) t.groups (fits.within step from to);
}
  where
    fewer : (group : GroupValue) (step most : ℕ) → load group step s.sends ≤ most → load group step (tightened pre s).sends ≤ most
    fewer group step most small =
        let useful = filter (is_useful pre s) s.sends in
        let one : load group step (tightened pre s).sends ≤ load group step useful = counted_firsts (λ h. eqb h.step step && has_link group (link_of h)) useful in
        let two : load group step useful ≤ load group step s.sends = counted_kept (λ h. eqb h.step step && has_link group (link_of h)) (is_useful pre s) s.sends in
        omega (arith, one, two, small)

pub tight_tightened : (pre : PlacementValue) (s : ScheduleValue) → IsSchedule s → IsInRange pre.chunks pre.nodes s → Tight pre (tightened pre s)
tight_tightened pre s valid in_range = grind (arith, All-from_recursion, each_weaker, same_after, useful_is, kept_useful, once_firsts)

pub solves_tightened : (t : TopologyValue) (pre post : PlacementValue) (s : ScheduleValue) (steps rounds : ℕ) → IsSchedule s → IsInRange pre.chunks pre.nodes s → Solves t pre post s steps rounds → Solves t pre post (tightened pre s) steps rounds
solves_tightened t pre post s steps rounds valid in_range solves = record {
  steps_are = solves.steps_are;
  rounds_are = solves.rounds_are;
  fits = fits_tightened t pre s solves.fits;
  delivers = subst (λ p. All (λ pair. holds p pair ≡ true) post.pairs) (sym (same_after pre s (length s.rounds) valid in_range)) solves.delivers;
}

-- where chunks can be brought from their one holder everywhere over the links turned round, their sums can be had there
pub summed_solvable : (t : TopologyValue) (demand : PlacementValue) (steps rounds : ℕ) → IsPlacement demand → demand.nodes ≡ t.nodes → HeldByOne demand → Solvable (reversed_of t) demand (everywhere demand.chunks demand.nodes) steps rounds → SummedSolvable t demand steps rounds
summed_solvable t demand steps rounds placed nodes_are alone solvable =
    let s : ScheduleValue = solvable.schedule in
    let tight : ScheduleValue = tightened demand s in
    let valid : IsSchedule tight = valid_tightened demand s solvable.valid in
    let in_range : IsInRange demand.chunks demand.nodes tight = in_range_tightened demand s demand.chunks demand.nodes solvable.in_range in
    record {
      schedule = inverse_of tight;
      valid = valid_inverse tight valid;
      in_range = inverse_in_range demand.chunks demand.nodes tight in_range;
      sums = inverse_sums t demand tight steps rounds placed nodes_are alone valid in_range (tight_tightened demand s solvable.valid solvable.in_range) (solves_tightened (reversed_of t) demand (everywhere demand.chunks demand.nodes) s steps rounds solvable.valid solvable.in_range solvable.solves);
    }

-- sums can be had exactly where the chunks can be brought back
pub summed_exactly : (t : TopologyValue) (demand : PlacementValue) (steps rounds : ℕ) → IsPlacement demand → demand.nodes ≡ t.nodes → HeldByOne demand → HeldBySome demand → SummedSolvable t demand steps rounds ↔ Solvable (reversed_of t) demand (everywhere demand.chunks demand.nodes) steps rounds
summed_exactly t demand steps rounds placed nodes_are alone some = (solvable_back t demand steps rounds nodes_are some, summed_solvable t demand steps rounds placed nodes_are alone)
