-- Hints of what is learned, by the numbers that a ledger has for the clauses of a core.
use Rattle.std.specs.Prelude.{ℕ, ◌+◌, Bool, List, [], ◌++◌, ◌∷◌, Option, get_or, map, filter}
use Rattle.trail_core.specs.Trails.{StepValue}
use Rattle.conflict_analysis.specs.Learning.{number_of}

-- a reason's number in the ledger, from a table that has it at the place of its number in the core
abbrev pub name_of : List ℕ → Option ℕ → ℕ
name_of names reason = get_or names (number_of reason) 0

-- those of the reasons of the resolved steps, in the order of the trail
abbrev pub numbers_of : List ℕ → (StepValue → Bool) → List StepValue → List ℕ
numbers_of names resolved steps = map (λ s. name_of names s.reason) (filter resolved steps)

-- these, and then that of the falsified clause
abbrev pub numbers_to : List ℕ → (StepValue → Bool) → List StepValue → ℕ → List ℕ
numbers_to names resolved steps conflict = numbers_of names resolved steps ++ get_or names (conflict + 1) 0 ∷ []
