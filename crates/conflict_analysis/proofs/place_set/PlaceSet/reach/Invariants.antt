use Rattle.std.proofs.Common.{◌≡◌, ℕ, ◌+◌, ◌-◌, get_or, length, ◌≢◌, Contains}
use Rattle.conflict_analysis.proofs.place_set.PlaceSet.reach.Given as goal

abbrev pub invariant-loop-self : goal.invariant-loop-self
invariant-loop-self l = ((i : ℕ) → get_or l.self-inside.words.items i 0 ≡ get_or l.initial.self-inside.words.items i 0) × ((i : ℕ) → get_or l.self-inside.words.items i 0 ≢ 0 → Contains l.self-inside.used.items i)

abbrev pub decreases-loop-self : goal.decreases-loop-self
decreases-loop-self l = l.index + 1 - length l.self-inside.words.items
