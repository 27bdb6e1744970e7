use Rattle.node_programs.proofs.Firing.{seen_send, sent_event}
use Rattle.node_programs.proofs.machine.Machine.send.Goals as goal

pub invariant_of-self : goal.invariant_of-self
invariant_of-self c = seen_send _ _ _ _ c.self.view_is c.self.invariant _ _ c.requires.node _ _ _ c.requires.next c.place-place.ensures _ _ _ c.advance.ensures c.push_at.ensures

pub returns : goal.returns
returns c = sent_event _ _ _ _ c.self.view_is c.self.invariant _ _ c.requires.node _ _ _ c.requires.next c.place-place.ensures _ _ _ c.advance.ensures c.push_at.ensures c.bag-bag.ensures.bag
