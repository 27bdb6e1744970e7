use Rattle.std.proofs.Common.{◌≡◌, ◌<◌, max, ap, subst, arith, IfOk}
use Rattle.proof_rules.specs.Judging.{verdict_of}
use Rattle.lrat_checker.proofs.Checked.{judged_ok}
use Rattle.lrat_checker.proofs.checker.Checker.verdict.Goals as goal

pub returns-clause-verdict : goal.returns-clause-verdict
returns-clause-verdict c =
    let i = c.self.inside in
    let line = c.args.line.now in
    let high : max i.greatest i.originals < line.id = omega (arith, c.max.ensures, c.if-line-max.false, ap (λ l. l.id) c.line.view_is) in
    subst (λ d. IfOk c.judge-verdict.result (λ v. v ≡ verdict_of d line)) c.self.view_is
    (judged_ok i.table i.originals i.greatest i.refuted line c.judge-verdict.result c.self.invariant.many high c.judge-verdict.ensures.verdict)
