-- The question of the collective that copies has the reduction's instance, chunks and limits, and is solvable where the reduction is.
use Rattle.std.proofs.Common.{◌≡◌, ℕ, ◌*◌, ◌<◌, true, refl, arith, ◌↔◌, ◌≢◌}
use Rattle.schedule.{specs.{Links.{TopologyValue, reversed_of}, Placed.HeldByOne, Solving.Solvable, Summing.SummedSolvable, Rows.everywhere}, proofs.Placing.placement-placed}
use Rattle.inversion.{specs.Reductions.HeldBySome, proofs.{Tightened.summed_exactly, Reducing.{question, root_alone, root_some, scattered_alone, scattered_some}}}
use Rattle.collective_spec.specs.{declared.{layout.Layout.{Layout, TheVariants.{Root, Scattered}}, kind.Kind.Kind, spec.Spec.Spec}, Kinds.allows, Collectives.{IsSpec, adds_up, chunks_in, kind_in, reduces}}
use Rattle.collective_spec.specs.Layouts.{laid_out, stands}
use Rattle.collective_spec.specs.declared.kind.Kind.TheVariants as kind
use Rattle.collective_spec.specs.declared.spec.Spec.TheVariants as spec
use Rattle.candidate_order.specs.{declared.candidate.Candidate.Candidate, Ranges.LimitsValue, Frontiers.{QuestionValue, IsSolvable, instance_for}, Copied.{copied_question, copied_spec}}
use Rattle.candidate_order.proofs.Achieved.{IsAchievable, achieved, solvable_by_one}

pub same_instance : (q : QuestionValue) (x : Candidate) → kind_in q.spec ≢ kind.Allreduce → instance_for (copied_question q) x ≡ instance_for q x
same_instance q x single = grind arith

pub same_sizes : (asked : Spec) (nodes c : ℕ) → (chunks_in (copied_spec asked) nodes c ≡ chunks_in asked nodes c) × (allows (kind_in (copied_spec asked)) nodes c ≡ allows (kind_in asked) nodes c)
same_sizes asked nodes c = grind arith

laid_exactly : (layout : Layout) (chunks : ℕ) (t : TopologyValue) (steps rounds : ℕ) → HeldByOne (laid_out layout chunks t.nodes) → HeldBySome (laid_out layout chunks t.nodes) → SummedSolvable t (laid_out layout chunks t.nodes) steps rounds ↔ Solvable (reversed_of t) (laid_out layout chunks t.nodes) (everywhere chunks t.nodes) steps rounds
laid_exactly layout chunks t steps rounds alone some = summed_exactly t (laid_out layout chunks t.nodes) steps rounds (placement-placed chunks t.nodes (stands layout t.nodes)) refl alone some

achievable_at : (k : Kind) (root : ℕ) (t : TopologyValue) (limits : LimitsValue) (x : Candidate) → reduces k ≡ true → k ≢ kind.Allreduce → root < t.nodes → IsAchievable (question k root t limits) x ↔ IsAchievable (copied_question (question k root t limits)) x
achievable_at kind.Reduce root t limits x adds single below =
    laid_exactly (Root root) x.c t x.s x.r (root_alone root x.c t.nodes) (root_some root x.c t.nodes below)
achievable_at kind.Reducescatter root t limits x adds single below =
    laid_exactly Scattered (t.nodes * x.c) t x.s x.r (scattered_alone (t.nodes * x.c) t.nodes) (scattered_some (t.nodes * x.c) t.nodes (omega (arith, below)))
achievable_at kind.Allreduce root t limits x adds single below = absurd (single refl)
achievable_at k root t limits x adds single below = absurd (grind arith)

spec_achievable : (t : TopologyValue) (asked : Spec) (limits : LimitsValue) (x : Candidate) → adds_up asked ≡ true → kind_in asked ≢ kind.Allreduce → IsSpec t.nodes asked → IsAchievable (record { topology = t; spec = asked; limits = limits }) x ↔ IsAchievable (copied_question (record { topology = t; spec = asked; limits = limits })) x
spec_achievable t (spec.Standard collective) limits x adds single is = achievable_at collective.kind collective.root t limits x adds single is.1
spec_achievable t (spec.Custom p) limits x adds single is = absurd cc

-- a reduction is solvable exactly where the collective is of which it is the inverse
pub solvable_exactly : (q : QuestionValue) (x : Candidate) → adds_up q.spec ≡ true → kind_in q.spec ≢ kind.Allreduce → IsSpec q.topology.nodes q.spec → IsSolvable q x ↔ IsSolvable (copied_question q) x
solvable_exactly q x adds single is = grind (arith, spec_achievable q.topology q.spec q.limits x adds single is, copied_question q, solvable_by_one, achieved)
