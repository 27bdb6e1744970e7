-- What a whole file of proof lines says, by how it is spelled (LRAT: Cruz-Filipe et al. 2017; the leniency is this project's own).
use Rattle.std.specs.{Prelude.{◌≡◌, ℕ, ◌==◌, ◌||◌, not, Bool, List, length, map, filter, All, slice_index, slice_index_or, nat_lt, codes}, List.slice_split}
use Rattle.text_lines.specs.Text.{Row, rows_of}
use Rattle.cnf_formula.specs.declared.line.LratLine.{LratLine}
use Rattle.lrat_text.specs.{Tokens.content, Printing.{line_words, IsReadable}}

-- words stand between any number of spaces and tabs
abbrev pub words_in : Row → List (List ℕ)
words_in row = filter (λ word. nat_lt 0 (length word)) (slice_split (λ b. b == 32 || b == 9) (content row))

-- a line without a word, and one whose first word begins with `c`, says nothing
abbrev pub is_passed : List (List ℕ) → Bool
is_passed words = slice_index (slice_index_or words 0 (codes "c")) 0 == 99

-- the words of the text's lines, but for those lines that say nothing, are the words of these proof lines, and no number is too large for a reader
pub record IsProofText (bytes : List ℕ) (lines : List LratLine) : Type 0 where
  pub spelled : filter (λ words. not (is_passed words)) (map words_in (rows_of bytes)) ≡ map line_words lines
  pub numbers : All IsReadable lines
