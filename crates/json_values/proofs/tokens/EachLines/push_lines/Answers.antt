use Rattle.std.proofs.Common.{◌∙◌}
use Rattle.text_lines.specs.Text.{line}
use Rattle.json_values.proofs.Appended.{past}
use Rattle.json_values.proofs.tokens.EachLines.push_lines.Goals as goal

pub loop-item-preserved : goal.loop-item-preserved
loop-item-preserved g c =
    c.loop-item.invariant ∙ past line (g.P.Lines.lines c.args.self.now.0) c.in-Some.items.now c.loop-item.item-index c.item-item.result c.loop-item.out.items c.push_lines.new.out.items c.loop-item-test.true c.item-item.is c.in_ok-push_lines.ensures
