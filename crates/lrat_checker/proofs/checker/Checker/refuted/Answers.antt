use Rattle.std.proofs.Common.{sym, ap, subst}
use Rattle.cnf_formula.specs.Formulas.{Satisfiable}
use Rattle.proof_rules.proofs.Calm.{never_refuted_after}
use Rattle.lrat_checker.specs.Checking.{checker_of}
use Rattle.lrat_checker.proofs.checker.Checker.refuted.Goals as goal

pub returns-clause-unsatisfiable : goal.returns-clause-unsatisfiable
returns-clause-unsatisfiable c = λ t s.
    let i = c.self.inside in
    never_refuted_after (checker_of i.table i.originals i.greatest i.refuted) c.self.invariant.checker t (subst Satisfiable (sym (ap (λ v. v.formula) c.self.view_is)) s)
