use Rattle.std.proofs.Common.{◌∙◌, arith}
use Rattle.outer_ports.specs.declared.part.Part.{TheVariants.Whole}
use Rattle.frontier_report.proofs.FrontierTurns.{frontier_read}
use Rattle.frontier_report.proofs.frontiers.frontiers_of.Goals as goal

pub loop-part-preserved : goal.loop-part-preserved
loop-part-preserved c = record {
  read =
      frontier_read c.args.words c.args.topology.now c.args.parts.now c.loop-part.part-index Whole c.loop-part.lines.place c.frontier_part.new.lines.place c.in_ok-frontier.frontier c.loop-part.frontiers.items c.push.new.self.items c.loop-part-test.true
      (rw c.requires.names at c.in_ok-frontier.ensures.read) c.in_ok-push.ensures.items ∙ c.loop-part.invariant.read;
  text = c.in_ok-frontier.ensures.text ∙ c.loop-part.invariant.text;
  number = omega (arith, c.in_ok-frontier.ensures.onward, c.loop-part.invariant.number);
}
