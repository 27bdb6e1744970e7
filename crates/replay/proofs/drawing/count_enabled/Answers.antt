use Rattle.std.proofs.Common.{sym, ◌∙◌, arith}
use Rattle.node_programs.specs.Machines.{is_enabled}
use Rattle.replay.proofs.{Drawn.{count_fails, count_passes}, drawing.count_enabled.Goals.{then-enabled, else-enabled}}
use Rattle.replay.proofs.drawing.count_enabled.Goals as goal

pub loop-node-preserved : goal.loop-node-preserved
loop-node-preserved c =
    let p = is_enabled c.args.machine.now in
    elim c.if-enabled.branch [
      | then-enabled w ↦ record { counted = w.count-is ∙ count_passes p c.loop-node.node c.loop-node.count c.loop-node.invariant.counted (sym c.enabled.ensures ∙ w.if-enabled.true); small = omega (arith, w.count-is, c.loop-node.invariant.small) }
      | else-enabled w ↦ record { counted = w.count-is ∙ count_fails p c.loop-node.node c.loop-node.count c.loop-node.invariant.counted (sym c.enabled.ensures ∙ w.if-enabled.false); small = omega (arith, w.count-is, c.loop-node.invariant.small) }
    ]
