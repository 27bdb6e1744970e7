use Rattle.std.proofs.Common.{◌≡◌, ℕ, ◌/◌, ◌<◌, ◌≤◌, get_or, length}
use Rattle.conflict_analysis.proofs.place_set.PlaceSet.copy.Given as goal

abbrev pub invariant-loop-index : goal.invariant-loop-index
invariant-loop-index l = record {
  room : l.last < length l.self;
  same : (i : ℕ) → l.from / 64 ≤ i → i < l.index → get_or l.self i 0 ≡ get_or l.other i 0;
}
