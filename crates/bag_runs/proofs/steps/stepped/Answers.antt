use Rattle.bag_runs.{specs.Stores.mode_at, proofs.Arriving.{arrived_all, arrived_next, hop_in_range}}
use Rattle.bag_runs.proofs.steps.stepped.Goals as goal

pub arrive-requires-clause-in_range : goal.arrive-requires-clause-in_range
arrive-requires-clause-in_range c = hop_in_range _ _ c.args.step c.args.schedule.now c.sends_of-hop-items.result.now c.loop-hop.hop-index _ c.requires c.sends_of-hop-items.ensures.sends c.loop-hop-test.true

pub loop-hop-preserved : goal.loop-hop-preserved
loop-hop-preserved c =
    arrived_next (mode_at c.args.adding c.args.step) c.at-mode.result c.args.before.now c.loop-hop.after c.arrive.new.after c.sends_of-hop-items.result.now c.loop-hop.hop-index _ c.loop-hop-test.true c.loop-hop.invariant c.at-mode.ensures c.arrive.ensures

pub returns-clause-bags : goal.returns-clause-bags
returns-clause-bags c =
    arrived_all c.args.before.now c.loop-hop.after c.args.schedule.now c.args.adding c.args.step c.sends_of-hop-items.result.now c.loop-hop.hop-index c.sends_of-hop-items.ensures.limits c.requires c.sends_of-hop-items.ensures.sends c.loop-hop-test.false c.loop-hop.invariant
