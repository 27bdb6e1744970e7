use Rattle.std.proofs.Common.{◌≤◌, ◌∙◌, get_or, arith}
use Rattle.node_programs.proofs.Counts.{counts_few, counts_more, counts_none}
use Rattle.node_programs.proofs.queues.send_counts.Goals as goal

pub loop-place-init : goal.loop-place-init
loop-place-init c = c.in_ok-counts.ensures.items_if_clones_equal (λ y same. same) ∙ counts_none c.args.nodes

pub count_send-requires : goal.count_send-requires
count_send-requires c = λ node.
    let counted : get_or c.loop-place.counts.items node 0 ≤ c.loop-place.place = rw c.loop-place.invariant (counts_few c.args.nodes c.loop-place.place c.args.ops.now node) in
    omega (arith, counted, c.loop-place-test.true)

pub loop-place-preserved : goal.loop-place-preserved
loop-place-preserved c = counts_more c.args.nodes c.loop-place.place c.args.ops.now _ c.loop-place.counts.items _ c.loop-place-test.true c.loop-place.invariant c.count_send.ensures
