use Rattle.std.proofs.Common.{◌≡◌, ◌+◌, ◌-◌, ◌≤◌, ◌++◌, IsTrue, vec_capacity, vec_len}
use Rattle.outer_ports.specs.Port.{Tells}
use Rattle.outer_ports.proofs.reading.read_all.Given as goal

abbrev pub invariant-loop-buffer : goal.invariant-loop-buffer
invariant-loop-buffer g l = let I = g.I.Source in record {
  within : vec_len l.bytes ≤ l.limit + 1;
  room : l.limit + 1 ≤ vec_capacity l.bytes;
  told : Tells (I.tells l.initial.source) (I.tells l.source);
  kept : I.faults l.source ≡ I.faults l.initial.source;
  taken : IsTrue (I.tells l.source) → l.bytes.items ++ I.left l.source ≡ I.left l.initial.source;
}

abbrev pub decreases-loop-buffer : goal.decreases-loop-buffer
decreases-loop-buffer g l = l.limit + 1 - vec_len l.bytes
