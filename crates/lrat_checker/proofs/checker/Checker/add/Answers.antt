use Rattle.std.proofs.Common.{◌≡◌, true, false, sym, ◌∙◌}
use Rattle.proof_rules.{specs.declared.verdict.LineVerdict.TheVariants.Accepted, proofs.Verdicts.{implied_by, redundant_by}}
use Rattle.lrat_checker.proofs.checker.Checker.add.Goals as goal

pub returns-in_ok-hold-clause-implied : goal.returns-in_ok-hold-clause-implied
returns-in_ok-hold-clause-implied c = λ e.
    let is : c.in_ok-verdict.verdict ≡ Accepted true = cc in
    implied_by c.args.self.now c.args.line.now (sym c.in_ok-verdict.ensures.verdict ∙ is)

pub returns-in_ok-hold-clause-redundant : goal.returns-in_ok-hold-clause-redundant
returns-in_ok-hold-clause-redundant c = λ e.
    let is : c.in_ok-verdict.verdict ≡ Accepted false = cc in
    redundant_by c.args.self.now c.args.line.now (sym c.in_ok-verdict.ensures.verdict ∙ is)
