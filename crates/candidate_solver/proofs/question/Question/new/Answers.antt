use Rattle.candidate_formula.proofs.CopyingQuestions.{small_by_copying}
use Rattle.candidate_solver.proofs.question.Question.new.Goals as goal

pub invariant_of-result : goal.invariant_of-result
invariant_of-result c = record {
  small = rw (c.in_ok-topology.ensures.copy, c.in_ok-spec.ensures)
      (small_by_copying c.args.topology.now c.args.spec.now c.args.limits c.copy_of_topology.ensures.limits c.requires.spec c.requires.single c.conflicts-conflicts.ensures.limits c.requires.size);
}
