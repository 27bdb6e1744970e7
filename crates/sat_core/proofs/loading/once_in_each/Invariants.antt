use Rattle.std.proofs.Common.{◌≡◌, ℕ, ◌+◌, ◌*◌, ◌≤◌, length, get_or, take, ◌≢◌, All, AllPairs}
use Rattle.cnf_formula.specs.Formulas.{IsClause}
use Rattle.sat_core.specs.inner.Loading.{IsLoaded}
use Rattle.sat_core.proofs.loading.once_in_each.Given as goal

abbrev pub invariant-loop-place : goal.invariant-loop-place
invariant-loop-place l = record {
  len : length l.seen.items ≡ 2 * l.own + 2;
  below : (k : ℕ) → get_or l.seen.items k 0 ≤ l.place;
  loaded : IsLoaded (take l.place l.clauses) l.once;
  within : All (IsClause l.own) l.once;
  once : All (AllPairs (λ a b. a ≢ b)) l.once;
}
