use Rattle.std.proofs.Common.{◌≡◌, IsTrue}
use Rattle.outer_ports.specs.Port.{Tells}
use Rattle.outer_ports.proofs.moving.read_again.Given as goal

abbrev pub invariant-loop : goal.invariant-loop
invariant-loop g l = let C = g.C.FileCalls in record { told : Tells (C.tells l.initial.calls) (C.tells l.calls); stays : IsTrue (C.tells l.calls) → C.disk l.calls ≡ C.disk l.initial.calls; counted : IsTrue (C.tells l.calls) → C.failed l.calls ≡ C.failed l.initial.calls }
