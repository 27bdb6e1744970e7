use Rattle.std.proofs.Common.{ℕ, get_or, length, ◌≢◌, Contains}
use Rattle.conflict_analysis.proofs.place_set.PlaceSet.clear.Given as goal

abbrev pub invariant-loop-index : goal.invariant-loop-index
invariant-loop-index l = (i : ℕ) → get_or l.self-inside.words.items i 0 ≢ 0 → Contains l.self-inside.used.items i

abbrev pub decreases-loop-index : goal.decreases-loop-index
decreases-loop-index l = length l.self-inside.used.items
