-- Lines in their turn, refutations, and spent logs (LRAT: Cruz-Filipe et al. 2017; logs are this project's own): a spent log is the
-- RUP additions of so many learned clauses, none subsumed by a clause held before.
use Rattle.std.specs.{Prelude.{◌≡◌, ◌==◌, ◌&&◌, ◌||◌, ℕ, Bool, true, false, not, List, [], ◌∷◌, ◌++◌, length, map, filter}, List.list_any}
use Rattle.cnf_formula.specs.{Literals.{LitValue, is_superset}, Formulas.FormulaValue, Lines.{ProofLineValue, DeletionValue}, declared.line.LratLine.{LratLine, TheVariants.{Addition, Deletion}}}
use Rattle.proof_rules.specs.{Held.{CheckerValue, start_of, has_none}, Testing.{is_rup, accepts}}

-- after an accepted addition its clause is held under its number
abbrev pub with_line : CheckerValue → ProofLineValue → CheckerValue
with_line c line = record c {
  held = c.held ++ (line.id, line.lits) ∷ [];
  greatest = line.id;
  refuted = c.refuted || has_none line.lits;
}

-- after an accepted deletion its clauses are not held
abbrev pub without_clauses : CheckerValue → DeletionValue → CheckerValue
without_clauses c deletion = record c { held = filter (λ entry. not (list_any (λ id. id == entry.0) deletion.ids)) c.held }

abbrev pub with_accepted : CheckerValue → LratLine → CheckerValue
with_accepted c (Addition line) = with_line c line
with_accepted c (Deletion deletion) = without_clauses c deletion

-- each line is accepted in its turn
abbrev pub all_accepted : CheckerValue → List LratLine → Bool
all_accepted c [] = true
all_accepted c (line ∷ lines) = accepts c line && all_accepted (with_accepted c line) lines

-- the checker after them
abbrev pub after_lines : CheckerValue → List LratLine → CheckerValue
after_lines c [] = c
after_lines c (line ∷ lines) = after_lines (with_accepted c line) lines

-- the clauses that are held after them, as a formula of the same variables
abbrev pub formula_after : FormulaValue → List LratLine → FormulaValue
formula_after f lines = record { vars = f.vars; clauses = map (λ entry. entry.1) (after_lines (start_of f) lines).held }

-- some lines, accepted in their turn, lead from the formula's clauses to this
pub record IsChecker (c : CheckerValue) : Type 0 where
  pub lines : List LratLine
  pub accepted : all_accepted (start_of c.formula) lines ≡ true
  pub is : after_lines (start_of c.formula) lines ≡ c

-- the lines refute a formula: each is accepted in its turn, and an addition has no literal
pub record Refutes (lines : List LratLine) (f : FormulaValue) : Type 0 where
  pub accepted : all_accepted (start_of f) lines ≡ true
  pub refuted : (after_lines (start_of f) lines).refuted ≡ true

-- ---- spent logs

-- a clause that no held clause states already: it has a literal, and is a superset of none
abbrev pub is_fresh : CheckerValue → List LitValue → Bool
is_fresh c clause = not (has_none clause || list_any (λ entry. is_superset clause entry.1) c.held)

-- each line is an addition that follows from what is held in its turn, and is fresh then
abbrev pub are_learned : CheckerValue → List LratLine → Bool
are_learned c [] = true
are_learned c (Deletion deletion ∷ lines) = false
are_learned c (Addition line ∷ lines) = is_rup c line && is_fresh c line.lits && are_learned (with_line c line) lines

-- so many additions, each implied and fresh in its turn
pub record SpentLog (lines : List ProofLineValue) (f : FormulaValue) (n : ℕ) : Type 0 where
  pub count : length lines ≡ n
  pub learned : are_learned (start_of f) (map Addition lines) ≡ true

-- a spent log of so many lines, after which no addition without a literal is implied
pub record Exhaustion (f : FormulaValue) (n : ℕ) : Type 0 where
  pub lines : List ProofLineValue
  pub spent : SpentLog lines f n
  pub not_closed : (line : ProofLineValue) → line.lits ≡ [] → is_rup (after_lines (start_of f) (map Addition lines)) line ≡ true → ⊥

-- there is such a log
abbrev pub Exhausted : FormulaValue → ℕ → Type 0
Exhausted f n = ∥ Exhaustion f n ∥₁
