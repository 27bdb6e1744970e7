-- The questions of a reduction and of the collective that copies fit, over links turned round.
use Rattle.std.proofs.{Common.{◌≡◌, ℕ, ◌*◌, ◌<◌, true, refl, sym, ap, ◌∙◌, arith, ◌≢◌, ◌%◌, filter}, Math.Nat.mod-lt, lemmas.Bool.{eqb-true, eq-eqb}}
use Rattle.schedule.specs.{Links.{TopologyValue}, Placed.{HeldByOne, all_pairs, holds}}
use Rattle.schedule.proofs.{First.{among_each, each_passes}, Inverted.inverse_sums, Inverting.{inverse_in_range, valid_inverse}, Ordered.among_from_any, Placing.{holds-placed, placement-placed}}
use Rattle.inversion.{specs.{Reductions.HeldBySome, Inverted.inverted_frontier}, proofs.{Delivering.solvable_back, Inverted.{Inverts, right_inverted, searched_inverted}}}
use Rattle.collective_spec.specs.{declared.{layout.Layout.{Layout, TheVariants.{Root, Scattered}}, kind.Kind.Kind, spec.Spec.Spec}, Layouts.{laid_out, stands}, Collectives.{IsSpec, adds_up, reduces}}
use Rattle.collective_spec.specs.declared.kind.Kind.TheVariants as kind
use Rattle.collective_spec.specs.declared.spec.Spec.TheVariants as spec
use Rattle.candidate_order.{specs.{Ranges.LimitsValue, Frontiers.{QuestionValue, FrontierValue, RightFrontier, Searched}, Copied.{copied_kind, copied_question}}, proofs.Achieved.{achieved, solvable_by_one}}

-- ---- layouts that place each chunk at one node

-- what is held stands in the layout
held_stands : (layout : Layout) (chunks nodes : ℕ) (pair : ℕ × ℕ) → holds (laid_out layout chunks nodes) pair ≡ true → stands layout nodes pair ≡ true
held_stands layout chunks nodes pair held =
    among_each (λ p. stands layout nodes p ≡ true) pair (filter (stands layout nodes) (all_pairs chunks nodes)) (each_passes (stands layout nodes) (all_pairs chunks nodes)) (among_from_any pair (filter (stands layout nodes) (all_pairs chunks nodes)) held)

pub root_alone : (root chunks nodes : ℕ) → HeldByOne (laid_out (Root root) chunks nodes)
root_alone root chunks nodes chunk a b first second =
    eqb-true a root (held_stands (Root root) chunks nodes (chunk, a) first) ∙ sym (eqb-true b root (held_stands (Root root) chunks nodes (chunk, b) second))

pub scattered_alone : (chunks nodes : ℕ) → HeldByOne (laid_out Scattered chunks nodes)
scattered_alone chunks nodes chunk a b first second =
    eqb-true a (chunk % nodes) (held_stands Scattered chunks nodes (chunk, a) first) ∙ sym (eqb-true b (chunk % nodes) (held_stands Scattered chunks nodes (chunk, b) second))

pub root_some : (root chunks nodes : ℕ) → root < nodes → HeldBySome (laid_out (Root root) chunks nodes)
root_some root chunks nodes below chunk c =
    (root, below, holds-placed chunks nodes (stands (Root root) nodes) (chunk, root) c below ∙ eq-eqb root root refl)

pub scattered_some : (chunks nodes : ℕ) → 0 < nodes → HeldBySome (laid_out Scattered chunks nodes)
scattered_some chunks nodes some chunk c =
    let below : chunk % nodes < nodes = mod-lt chunk some in
    (chunk % nodes, below, holds-placed chunks nodes (stands Scattered nodes) (chunk, chunk % nodes) c below ∙ eq-eqb (chunk % nodes) (chunk % nodes) refl)

-- ---- the two questions

abbrev pub question : Kind → ℕ → TopologyValue → LimitsValue → QuestionValue
question k root t limits = record { topology = t; spec = spec.Standard (record { kind = k; root = root }); limits = limits }

reduce_inverts : (root : ℕ) (t : TopologyValue) (limits : LimitsValue) → root < t.nodes → Inverts (question kind.Reduce root t limits) (copied_question (question kind.Reduce root t limits))
reduce_inverts root t limits below = record {
  single = λ is. cc;
  there = λ x w. record { some_steps = w.some_steps; steps = w.steps; all_rounds = w.all_rounds; rounds = w.rounds; chunks = w.chunks; allowed = w.allowed };
  back = λ x w. record { some_steps = w.some_steps; steps = w.steps; all_rounds = w.all_rounds; rounds = w.rounds; chunks = w.chunks; allowed = w.allowed };
  conflicts = refl;
  solved = λ a by tight. record {
    valid = valid_inverse a.schedule by.valid;
    in_range = inverse_in_range a.candidate.c t.nodes a.schedule by.in_range;
    achieves = inverse_sums t (laid_out (Root root) a.candidate.c t.nodes) a.schedule a.candidate.s a.candidate.r (placement-placed a.candidate.c t.nodes (stands (Root root) t.nodes)) refl (root_alone root a.candidate.c t.nodes) by.valid by.in_range tight by.achieves;
  };
  solvable = λ x some. solvable_by_one (copied_question (question kind.Reduce root t limits)) x (solvable_back t (laid_out (Root root) x.c t.nodes) x.s x.r refl (root_some root x.c t.nodes below) (achieved (question kind.Reduce root t limits) x some));
  wastes = λ a by tight. (a.schedule, (by.valid, (by.in_range, (tight, refl))));
}

reducescatter_inverts : (root : ℕ) (t : TopologyValue) (limits : LimitsValue) → root < t.nodes → Inverts (question kind.Reducescatter root t limits) (copied_question (question kind.Reducescatter root t limits))
reducescatter_inverts root t limits below = record {
  single = λ is. cc;
  there = λ x w. record { some_steps = w.some_steps; steps = w.steps; all_rounds = w.all_rounds; rounds = w.rounds; chunks = w.chunks; allowed = w.allowed };
  back = λ x w. record { some_steps = w.some_steps; steps = w.steps; all_rounds = w.all_rounds; rounds = w.rounds; chunks = w.chunks; allowed = w.allowed };
  conflicts = refl;
  solved = λ a by tight. record {
    valid = valid_inverse a.schedule by.valid;
    in_range = inverse_in_range (t.nodes * a.candidate.c) t.nodes a.schedule by.in_range;
    achieves = inverse_sums t (laid_out Scattered (t.nodes * a.candidate.c) t.nodes) a.schedule a.candidate.s a.candidate.r (placement-placed (t.nodes * a.candidate.c) t.nodes (stands Scattered t.nodes)) refl (scattered_alone (t.nodes * a.candidate.c) t.nodes) by.valid by.in_range tight by.achieves;
  };
  solvable = λ x some. solvable_by_one (copied_question (question kind.Reducescatter root t limits)) x (solvable_back t (laid_out Scattered (t.nodes * x.c) t.nodes) x.s x.r refl (scattered_some (t.nodes * x.c) t.nodes (omega (arith, below))) (achieved (question kind.Reducescatter root t limits) x some));
  wastes = λ a by tight. (a.schedule, (by.valid, (by.in_range, (tight, refl))));
}

-- the question of a reduction to one node for each chunk
inverts : (k : Kind) (root : ℕ) (t : TopologyValue) (limits : LimitsValue) → reduces k ≡ true → k ≢ kind.Allreduce → root < t.nodes → Inverts (question k root t limits) (copied_question (question k root t limits))
inverts kind.Reduce root t limits adds single below = reduce_inverts root t limits below
inverts kind.Reducescatter root t limits adds single below = reducescatter_inverts root t limits below
inverts kind.Allreduce root t limits adds single below = absurd (single refl)
inverts k root t limits adds single below = absurd (grind arith)

-- the question of any reduction, where a frontier of its copy is right
pub spec_inverts : (t : TopologyValue) (asked : Spec) (limits : LimitsValue) (f : FrontierValue) → adds_up asked ≡ true → IsSpec t.nodes asked → RightFrontier (copied_question (record { topology = t; spec = asked; limits = limits })) f → Inverts (record { topology = t; spec = asked; limits = limits }) (copied_question (record { topology = t; spec = asked; limits = limits }))
spec_inverts t (spec.Standard collective) limits f adds is right = inverts collective.kind collective.root t limits adds (λ allreduce. right.single (ap copied_kind allreduce)) is.1
spec_inverts t (spec.Custom p) limits f adds is right = absurd cc

pub reduction_right : (q : QuestionValue) (f : FrontierValue) → adds_up q.spec ≡ true → IsSpec q.topology.nodes q.spec → RightFrontier (copied_question q) f → Searched (copied_question q) f → RightFrontier q (inverted_frontier f)
reduction_right q f adds is right searched = right_inverted q (copied_question q) f (spec_inverts q.topology q.spec q.limits f adds is right) right searched

pub reduction_searched : (q : QuestionValue) (f : FrontierValue) → adds_up q.spec ≡ true → IsSpec q.topology.nodes q.spec → RightFrontier (copied_question q) f → Searched (copied_question q) f → Searched q (inverted_frontier f)
reduction_searched q f adds is right searched = searched_inverted q (copied_question q) f (spec_inverts q.topology q.spec q.limits f adds is right) right searched
