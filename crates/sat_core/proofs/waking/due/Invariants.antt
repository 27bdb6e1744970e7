use Rattle.std.proofs.Common.{◌≡◌, ◌<◌, ◌∷◌, [], get_or, true, false}
use Rattle.trail_core.specs.Meaning.{trues, IsClosed}
use Rattle.sat_core.proofs.waking.due.Given as goal

abbrev pub invariant-loop-place : goal.invariant-loop-place
invariant-loop-place l = (k : _) → k < l.place → get_or l.sleepers.asleep k false ≡ true → IsClosed (trues l.core) (get_or l.sleepers.clauses k [] ∷ [])
