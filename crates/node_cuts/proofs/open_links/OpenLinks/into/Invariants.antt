use Rattle.std.proofs.Common.{◌≡◌, ◌<◌, ◌/◌, ◌%◌, ℕ, false, length, slice_index_or}
use Rattle.node_cuts.specs.{inner.Listed.members, Cuts.enters}
use Rattle.node_cuts.proofs.open_links.OpenLinks.into.Given as goal

abbrev pub invariant-loop-cell : goal.invariant-loop-cell
invariant-loop-cell l = record {
  told : (k : ℕ) → k < l.cell → slice_index_or l.cells k false ≡ enters (members l.set) (k / 16, k % 16);
  whole : length l.cells ≡ 256;
}
