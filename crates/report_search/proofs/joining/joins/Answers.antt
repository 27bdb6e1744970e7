use Rattle.std.proofs.Common.{◌++◌, ap, ◌∙◌}
use Rattle.report_search.proofs.JoinsAdded.{joins_more, joined_with}
use Rattle.report_search.proofs.joining.joins.Goals as goal

pub loop-first-preserved : goal.loop-first-preserved
loop-first-preserved c =
    joins_more c.args.reduce.now c.args.gather.now c.loop-first.joined.items c.join_each.new.joined.items c.loop-first.first-index c.first-item.result c.loop-first-test.true c.loop-first.invariant
    (c.in_ok-join_each.ensures ∙ ap (λ p. c.loop-first.joined.items ++ joined_with p c.args.gather.now) c.first-item.is)
