use Rattle.node_programs.proofs.Firing.{seen_take, taken_event}
use Rattle.node_programs.proofs.machine.Machine.take.Goals as goal

pub invariant_of-self-in-Some : goal.invariant_of-self-in-Some
invariant_of-self-in-Some c = rw c.receive.ensures.received (seen_take _ _ _ _ c.self.view_is c.self.invariant _ _ c.requires.node _ _ _ _ c.requires.next c.place-place.ensures _ _ c.advance.ensures c.in-Some.ensures.some.1)

pub returns-in-Some-clause-state : goal.returns-in-Some-clause-state
returns-in-Some-clause-state c = taken_event _ _ _ _ c.self.view_is c.self.invariant _ _ c.requires.node _ _ _ _ c.requires.next c.place-place.ensures _ _ c.advance.ensures c.in-Some.ensures.some.1 _ _ c.in-Some.ensures.some.0 c.receive.ensures.received
