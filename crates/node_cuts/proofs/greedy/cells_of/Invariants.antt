use Rattle.std.proofs.Common.{◌≡◌, length, take}
use Rattle.node_cuts.specs.Opened.{MarksNumbers}
use Rattle.node_cuts.proofs.greedy.cells_of.Given as goal

abbrev pub invariant-loop-number : goal.invariant-loop-number
invariant-loop-number l = record {
  marks : MarksNumbers l.cells (take l.number-index l.numbers);
  whole : length l.cells ≡ 256;
}
