use Rattle.std.proofs.Common.{take}
use Rattle.schedule.proofs.Wasting.{HasReceived}
use Rattle.schedule.proofs.tight.received_once.Given as goal

abbrev pub invariant-loop-hop : goal.invariant-loop-hop
invariant-loop-hop l = HasReceived l.initial.received.chunks l.initial.received.nodes l.received (take l.hop-index l.sends)
