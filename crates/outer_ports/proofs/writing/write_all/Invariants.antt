use Rattle.std.proofs.Common.{◌≡◌, ◌-◌, ◌≤◌, ◌++◌, length, take, IsTrue}
use Rattle.outer_ports.specs.Port.{Tells}
use Rattle.outer_ports.proofs.writing.write_all.Given as goal

abbrev pub invariant-loop-done : goal.invariant-loop-done
invariant-loop-done g l = let O = g.O.Sink in record {
  within : l.done ≤ length l.bytes;
  told : Tells (O.tells l.initial.sink) (O.tells l.sink);
  kept : O.faults l.sink ≡ O.faults l.initial.sink;
  written : IsTrue (O.tells l.sink) → O.written l.sink ≡ O.written l.initial.sink ++ take l.done l.bytes;
}

abbrev pub decreases-loop-done : goal.decreases-loop-done
decreases-loop-done g l = length l.bytes - l.done
