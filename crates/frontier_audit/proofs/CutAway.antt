-- Of a candidate that is cut away no file is looked at, and it has no solution.
use Rattle.std.proofs.Common.{arith, ◌≡◌, ◌≢◌, Bool, true, false, Ok, refl, sym, ap, ◌∙◌, if◌then◌else◌}
use Rattle.outer_ports.specs.{declared.part.Part.Part, Files.Files}
use Rattle.collective_spec.specs.declared.kind.Kind.TheVariants as kind
use Rattle.collective_spec.specs.Collectives.{IsSpec, adds_up, kind_in}
use Rattle.candidate_order.{specs.{declared.candidate.Candidate.Candidate, Copied.copied_question, Frontiers.{QuestionValue, IsSolvable}}, proofs.Achieved.achieved}
use Rattle.inversion.proofs.Copied.{solvable_exactly}
use Rattle.node_cuts.proofs.Crossing.{first_says}
use Rattle.candidate_formula.{specs.{Files.HasRefutation, Pruned.is_cut_away}, proofs.{Copying.copies, CutAway.{copied_cut, reduced_cut}}}
use Rattle.frontier_audit.{specs.{Denials.{Denial, Checked}, Auditing.refutation_checked, inner.Steps.refuted_checked}, proofs.Beside.{has_refutation, passes_refutation}}

-- ---- the check of a refuted candidate

module _ (part : Part) (q : QuestionValue) (files : Files) (x : Candidate) where
  abbrev over : Bool → Checked Denial
  over b = if b then Ok tt else refutation_checked part q files x

  pub passed_where_cut : is_cut_away q x ≡ true → refuted_checked part q files x ≡ Ok tt
  passed_where_cut cut = ap over cut

  pub checked_where_uncut : is_cut_away q x ≡ false → refuted_checked part q files x ≡ refutation_checked part q files x
  checked_where_uncut uncut = ap over uncut

  pub owes_refutation : refuted_checked part q files x ≡ Ok tt → is_cut_away q x ≡ false → HasRefutation part q files x
  owes_refutation e uncut = has_refutation part q files x (sym (checked_where_uncut uncut) ∙ e)

  pub passes_refuted : (is_cut_away q x ≡ false → HasRefutation part q files x) → refuted_checked part q files x ≡ Ok tt
  passes_refuted has = grind (arith, passed_where_cut, checked_where_uncut, passes_refutation)

-- ---- no solution

copied_unsolvable : (q : QuestionValue) (x : Candidate) → adds_up q.spec ≡ false → is_cut_away q x ≡ true → IsSolvable q x → ⊥
copied_unsolvable q x copying cut solvable = grind (arith, achieved, first_says, copied_cut)

-- a reduction has the cuts of what copies over the links turned round
pub cut_unsolvable : (q : QuestionValue) (x : Candidate) → IsSpec q.topology.nodes q.spec → kind_in q.spec ≢ kind.Allreduce → is_cut_away q x ≡ true → IsSolvable q x → ⊥
cut_unsolvable q x is single cut solvable = by_kind (adds_up q.spec) refl
  where
    by_kind : (b : Bool) → adds_up q.spec ≡ b → ⊥
    by_kind false copying = copied_unsolvable q x copying cut solvable
    by_kind true adds = copied_unsolvable (copied_question q) x (copies q.spec single) (reduced_cut q x adds single ∙ cut) ((solvable_exactly q x adds single is).0 solvable)
