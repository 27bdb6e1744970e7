use Rattle.bag_runs.proofs.Storing.{received_here}
use Rattle.bag_runs.proofs.store.Store.receive.Goals as goal

pub returns-clause-received : goal.returns-clause-received
returns-clause-received c =
    let s = c.self.inside in
    rw (← c.self.view_is) (received_here s.chunks s.nodes s.bags.items c.args.chunk c.args.node c.received.result c.args.mode c.index.result.now c.args.arrived c.self.invariant
    (rw (← c.self.view_is) at c.requires.chunk) (rw (← c.self.view_is) at c.requires.node) c.index.ensures c.received.ensures.bag)
