use Rattle.std.proofs.Common.{arith, sym, ap, ◌∙◌}
use Rattle.schedule.specs.Links.{TopologyValue}
use Rattle.candidate_formula.specs.{Formulas.formula_for, Questions.copying_question}
use Rattle.frontier_audit.proofs.Asking.{is_sought, formula_is}
use Rattle.frontier_audit.proofs.part_question.PartQuestion.formula.Goals as goal

pub encode_candidate-requires : goal.encode_candidate-requires
encode_candidate-requires c = grind (arith, is_sought)

pub returns : goal.returns
returns c =
    c.into_formula.ensures
    ∙ (c.in_ok-encoded.ensures.formula c.self.inside.limits (sym c.pruning-pruning.ensures)
    ∙ (ap (λ (t : TopologyValue). formula_for (copying_question t c.self.inside.spec c.self.inside.limits) c.args.candidate) c.deref.ensures
    ∙ formula_is c.self.inside.topology.now _ c.self.inside.spec c.self.inside.limits c.self.inside.cuts c.args.self.now c.self.view_is c.self.invariant c.args.candidate))
