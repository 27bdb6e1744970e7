-- Clauses that lie one after another in one list of literals.
use Rattle.std.specs.Prelude.{◌≡◌, ℕ, ◌≤◌, List, [], ◌∷◌, slice_range}
use Rattle.cnf_formula.specs.Literals.{LitValue}

-- from a place on, the clauses that end at these places
abbrev pub cut : List LitValue → ℕ → List ℕ → List (List LitValue)
cut lits from [] = []
cut lits from (end ∷ ends) = slice_range lits from end ∷ cut lits end ends

-- from a place on, each clause begins where the one before it ends, and the last ends where the list does
abbrev pub AreEnds : ℕ → List ℕ → ℕ → Type 0
AreEnds from [] last = from ≡ last
AreEnds from (end ∷ ends) last = (from ≤ end) × AreEnds end ends last
