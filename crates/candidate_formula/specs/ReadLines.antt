-- The lines that a whole file of proof lines says, or nothing where it is at fault (LRAT: Cruz-Filipe et al. 2017; the leniency is this
-- project's own).
use Rattle.std.specs.{Prelude.{ℕ, ◌==◌, ◌&&◌, not, Bool, if◌then◌else◌, List, [], ◌∷◌, drop, slice_index, nat_le, Option, None, Some, option_map, ℤ, pos, neg_ℤ, bytes_eq, codes}, Str.Parse.digits_value}
use Rattle.text_lines.specs.Text.{Row, rows_of}
use Rattle.cnf_formula.specs.{Literals.LitValue, declared.line.LratLine.{LratLine, TheVariants.{Addition, Deletion}}}
use Rattle.lrat_text.specs.Tokens.{is_number}
use Rattle.candidate_formula.specs.ProofTexts.{words_in, is_passed}

-- ---- words

-- the number from 1 to a greatest one that the digits spell
abbrev pub number_in : ℕ → List ℕ → Option ℕ
number_in greatest digits = if is_number digits && nat_le (digits_value 10 digits) greatest then Some (digits_value 10 digits) else None

abbrev pub is_negative : List ℕ → Bool
is_negative word = slice_index word 0 == 45

-- the number behind a minus, if there is one
abbrev pub size_in : ℕ → List ℕ → Option ℕ
size_in greatest word = number_in greatest (if is_negative word then drop 1 word else word)

abbrev pub literal_in : List ℕ → Option LitValue
literal_in word = option_map (λ var. record { var = var; positive = not (is_negative word) }) (size_in 2147483647 word)

abbrev pub hint_in : List ℕ → Option ℤ
hint_in word = option_map (λ id. if is_negative word then neg_ℤ (pos id) else pos id) (size_in 4294967295 word)

-- what the words up to a zero say, and the words behind it
abbrev pub before_zero : {A : Type 0} → (List ℕ → Option A) → List (List ℕ) → Option (List A × List (List ℕ))
before_zero read [] = None
before_zero read (word ∷ words) = if bytes_eq word (codes "0") then Some ([], words) else elim (read word) [
  | None ↦ None
  | Some x ↦ option_map (λ more. (x ∷ more.0, more.1)) (before_zero read words)
]

-- what the words say where a zero is the last of them, and no other
abbrev pub closed_by_zero : {A : Type 0} → (List ℕ → Option A) → List (List ℕ) → Option (List A)
closed_by_zero read words = elim (before_zero read words) [
  | None ↦ None
  | Some (xs, []) ↦ Some xs
  | Some (xs, word ∷ more) ↦ None
]

-- ---- lines

abbrev pub addition_in : ℕ → List (List ℕ) → Option LratLine
addition_in id words = elim (before_zero literal_in words) [
  | None ↦ None
  | Some lits ↦ option_map (λ hints. Addition (record { id = id; lits = lits.0; hints = hints })) (closed_by_zero hint_in lits.1)
]

abbrev pub deletion_in : ℕ → List (List ℕ) → Option LratLine
deletion_in id words = option_map (λ ids. Deletion (record { id = id; ids = ids })) (closed_by_zero (number_in 4294967295) words)

-- a line is a deletion where its second word is `d`
abbrev pub behind_number : ℕ → List (List ℕ) → Option LratLine
behind_number id [] = None
behind_number id (word ∷ words) = if bytes_eq word (codes "d") then deletion_in id words else addition_in id (word ∷ words)

abbrev pub line_in : List (List ℕ) → Option LratLine
line_in [] = None
line_in (word ∷ words) = elim (number_in 4294967295 word) [
  | None ↦ None
  | Some id ↦ behind_number id words
]

-- a line that says nothing is passed over
abbrev pub lines_in : List Row → Option (List LratLine)
lines_in [] = Some []
lines_in (row ∷ rows) = if is_passed (words_in row) then lines_in rows else elim (line_in (words_in row)) [
  | None ↦ None
  | Some line ↦ option_map (λ lines. line ∷ lines) (lines_in rows)
]

abbrev pub lines_said : List ℕ → Option (List LratLine)
lines_said bytes = lines_in (rows_of bytes)
