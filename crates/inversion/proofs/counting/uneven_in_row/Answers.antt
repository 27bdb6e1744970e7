use Rattle.std.proofs.Common.{◌<◌, ◌∙◌, None, Some, sym, arith}
use Rattle.schedule.specs.Placed.{holds}
use Rattle.bag_runs.specs.Stores.{StoreValue, bags_in}
use Rattle.inversion.proofs.Uneven.{row_on, row_past}
use Rattle.inversion.proofs.counting.uneven_in_row.Goals as goal

pub returns-in-Some : goal.returns-in-Some
returns-in-Some c =
    let s : StoreValue = c.args.store.now in
    let below : c.loop-node.node < s.nodes = omega arith in
    sym (row_on (bags_in s) s.nodes (holds c.args.demand.now) c.args.chunk c.loop-node.node (Some c.in-Some.of) below c.in-Some.ensures) ∙ c.loop-node.invariant

pub loop-node-preserved : goal.loop-node-preserved
loop-node-preserved c =
    let s : StoreValue = c.args.store.now in
    let below : c.loop-node.node < s.nodes = omega arith in
    sym (row_on (bags_in s) s.nodes (holds c.args.demand.now) c.args.chunk c.loop-node.node None below c.in_default.ensures) ∙ c.loop-node.invariant

pub returns : goal.returns
returns c = grind (arith, row_past)
