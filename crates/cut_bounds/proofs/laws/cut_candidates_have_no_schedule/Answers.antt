use Rattle.candidate_formula.proofs.Copying.{copies}
use Rattle.cut_bounds.specs.Laws.{cut_refuted}
use Rattle.candidate_order.specs.Copied.{copied_question}
use Rattle.cut_bounds.proofs.laws.cut_candidates_have_no_schedule.Goals as goal

pub returns : goal.returns
returns c = record {
  copies = cut_refuted;
  sums = λ sets q x adds single spec cut solvable.
      cut_refuted sets (copied_question q) x (copies q.spec single) cut ((c.a_reduction_is_solvable_where_its_copy_is.ensures q x adds single spec).0 solvable);
}
