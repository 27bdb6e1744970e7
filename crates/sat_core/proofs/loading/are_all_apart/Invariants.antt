use Rattle.std.proofs.Common.{[], ℕ, ◌<◌, ◌≤◌, get_or, ◌≢◌, AllPairs}
use Rattle.sat_core.proofs.loading.are_all_apart.Given as goal

abbrev pub invariant-loop-place : goal.invariant-loop-place
invariant-loop-place l = record {
  below : (k : ℕ) → get_or l.seen.items k 0 ≤ l.place;
  once : (k : ℕ) → k < l.place → AllPairs (λ a b. a ≢ b) (get_or l.clauses k []);
}
