use Rattle.std.{proofs.Common.{◌≡◌, Some, sym, ap, ◌∙◌, rules}, specs.Str.Parse.digits_value}
use Rattle.report_lines.specs.{Asking.asks, Wide.candidate_of}
use Rattle.frontier_report.{specs.inner.Wide.unknown, proofs.Turns.tested}
use Rattle.frontier_report.proofs.listed.unknown_behind.Goals as goal

pub returns-then-spells : goal.returns-then-spells
returns-then-spells c =
    let same : c.conflicts-conflicts.result ≡ (asks c.args.question.now).limits.conflicts = search rules in
    let behind = rw c.last_unknown.ensures at (sym c.in-Some.is ∙ c.candidate_behind.ensures.tested) in
    rw (← same) (ap (λ u. Some u) c.new.ensures ∙ tested unknown _ (digits_value 10 c.args.digits.now) _ (candidate_of c.args.x) c.in-Some.candidate behind (sym c.spells.ensures ∙ c.if-spells.true))
