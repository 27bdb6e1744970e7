-- What is left to do of a search.
use Rattle.std.specs.Prelude.{◌≡◌, ◌⊎◌, ℕ, ◌+◌, ◌-◌, ◌*◌, ◌<◌}

-- what is left to do: lines first, then clauses that sleep, then open variables
abbrev pub remaining : ℕ → ℕ → ℕ → ℕ → ℕ → ℕ
remaining limit spent asleep vars len = ((limit - spent) * 18446744073709551616 + asleep) * (vars + 2) + (vars - len)

-- lines were learned, or fewer clauses sleep
abbrev pub IsLess : ℕ → ℕ → ℕ → ℕ → Type 0
IsLess spent asleep spent' asleep' = (spent < spent') ⊎ ((spent' ≡ spent) × (asleep' < asleep))
