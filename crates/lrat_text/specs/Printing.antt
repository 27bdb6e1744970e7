-- The text of a formula (DIMACS CNF) and of proof lines (LRAT: Cruz-Filipe et al. 2017), as tokens of lines.
use Rattle.std.specs.{Prelude.{ℕ, ◌+◌, ◌<◌, ◌≤◌, All, if◌then◌else◌, List, [], ◌∷◌, ◌++◌, length, map, ℤ, pos, negsuc, decimal, codes}, List.flat_map}
use Rattle.text_lines.specs.Text.{text_of}
use Rattle.cnf_formula.specs.{Literals.{LitValue, IsLit}, Formulas.FormulaValue, declared.line.LratLine.{LratLine, TheVariants.{Addition, Deletion}}}

-- a negated literal and a negative hint have a minus sign
abbrev pub literal_word : LitValue → List ℕ
literal_word l = if l.positive then decimal l.var else 45 ∷ decimal l.var

abbrev pub hint_word : ℤ → List ℕ
hint_word (pos n) = decimal n
hint_word (negsuc n) = 45 ∷ decimal (n + 1)

-- tokens, and the zero that closes them
abbrev pub closed : List (List ℕ) → List (List ℕ)
closed words = words ++ codes "0" ∷ []

-- words with a space behind each
abbrev pub trailed : List (List ℕ) → List ℕ
trailed words = flat_map (λ word. word ++ 32 ∷ []) words

-- the line `p cnf V M`, and a line for each clause
abbrev pub cnf_text : FormulaValue → List ℕ
cnf_text f = text_of ((codes "p" ∷ codes "cnf" ∷ decimal f.vars ∷ decimal (length f.clauses) ∷ []) ∷ map (λ clause. closed (map literal_word clause)) f.clauses)

abbrev pub line_words : LratLine → List (List ℕ)
line_words (Addition line) = decimal line.id ∷ closed (map literal_word line.lits) ++ closed (map hint_word line.hints)
line_words (Deletion deletion) = decimal deletion.id ∷ codes "d" ∷ closed (map decimal deletion.ids)

abbrev pub lrat_text : List LratLine → List ℕ
lrat_text lines = text_of (map line_words lines)

-- ---- lines whose numbers a reader takes

pub record IsId (n : ℕ) : Type 0 where
  pub some : 0 < n
  pub small : n ≤ 4294967295

abbrev pub IsHint : ℤ → Type 0
IsHint (pos n) = IsId n
IsHint (negsuc n) = IsId (n + 1)

abbrev pub IsReadable : LratLine → Type 0
IsReadable (Addition line) = IsId line.id × All IsLit line.lits × All IsHint line.hints
IsReadable (Deletion deletion) = IsId deletion.id × All IsId deletion.ids
