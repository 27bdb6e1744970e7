use Rattle.std.proofs.Common.{◌≡◌, sym, ap, ◌∙◌, rules}
use Rattle.proof_rules.{specs.{Held.{CheckerValue, start_of}, Refuting.with_line}, proofs.InTurn.after_more}
use Rattle.conflict_ledger.proofs.checked.accept.Goals as goal

pub returns-clause-accepted : goal.returns-clause-accepted
returns-clause-accepted c =
    let line = c.args.line.now in
    let held : c.add.new.self ≡ with_line c.args.checker.now line = search rules in
    λ base lines e. held ∙ ap (λ (k : CheckerValue). with_line k line) e ∙ sym (after_more lines (start_of base) line)
