use Rattle.std.proofs.Common.{subst}
use Rattle.run_rules.{specs.{Read.IsSearchableAs, Tasks.searchable, Steps.whole_question}, proofs.Sought.cannot_search}
use Rattle.run_rules.proofs.search_text.search_for.Goals as goal

pub returns-in-Some : goal.returns-in-Some
returns-in-Some c =
    let w = c.args.words in
    let t = c.args.topology in
    let refused = subst (IsSearchableAs (searchable (whole_question w t))) c.in-Some.is c.in_ok-answer.ensures in
    record { refusal = refused.refusal; is = cannot_search w t refused.refusal refused.is; says = refused.says }
