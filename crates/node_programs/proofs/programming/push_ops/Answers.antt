use Rattle.std.proofs.Common.{if◌then◌else◌}
use Rattle.node_programs.{specs.inner.Pushed.{send_of, take_of}, proofs.Pushing.{pushed_all, pushed_more, pushed_none}}
use Rattle.node_programs.proofs.programming.push_ops.Goals as goal

pub loop-hop-init : goal.loop-hop-init
loop-hop-init c = pushed_none (if c.args.take then take_of c.args.adding else send_of) (λ h. if c.args.take then h.to else h.from) _

pub loop-hop-preserved : goal.loop-hop-preserved
loop-hop-preserved c =
    let more = rw (c.op_of-node.ensures.node, c.op_of-node.ensures.op) at c.in_ok-push_op.ensures in
    pushed_more _ _ _ _ _ c.args.sends.now c.loop-hop.hop-index _ c.loop-hop.invariant c.loop-hop-test.true more

pub returns : goal.returns
returns c = pushed_all _ _ _ _ c.args.sends.now c.loop-hop.hop-index c.loop-hop.invariant c.loop-hop-test.false
