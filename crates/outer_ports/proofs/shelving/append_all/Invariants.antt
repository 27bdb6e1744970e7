use Rattle.std.proofs.Common.{◌≡◌, ℕ, ◌-◌, ◌≤◌, List, ◌++◌, Some, length, take, IsTrue}
use Rattle.outer_ports.specs.{Port.Tells, Shelf.OthersStay}
use Rattle.outer_ports.proofs.shelving.append_all.Given as goal

abbrev pub invariant-loop-done : goal.invariant-loop-done
invariant-loop-done g l = let H = g.H.Shelf in record {
  within : l.done ≤ length l.bytes;
  told : Tells (H.tells l.initial.shelf) (H.tells l.shelf);
  kept : H.faults l.shelf ≡ H.faults l.initial.shelf;
  others : IsTrue (H.tells l.shelf) → OthersStay l.name (H.file l.initial.shelf) (H.file l.shelf);
  written : IsTrue (H.tells l.shelf) → (before : List ℕ) → H.file l.initial.shelf l.name ≡ Some before → H.file l.shelf l.name ≡ Some (before ++ take l.done l.bytes);
}

abbrev pub decreases-loop-done : goal.decreases-loop-done
decreases-loop-done g l = length l.bytes - l.done
