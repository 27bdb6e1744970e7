-- A text as its lines, and a line as its tokens; and how lines and tokens are spelled.
use Rattle.std.specs.{Prelude.{◌≡◌, ℕ, ◌+◌, ◌==◌, Bool, true, false, if◌then◌else◌, List, [], ◌∷◌, ◌++◌, length, drop}, List.{slice_split, flat_map, join_with_byte}}

-- a line without its line feed, and whether one ended it
pub record Row : Type 0 where
  pub bytes : List ℕ
  pub whole : Bool

-- a byte in front of the first line; where there is none, the byte is a line that nothing ended
abbrev pub onto_row : ℕ → List Row → List Row
onto_row b [] = record { bytes = b ∷ []; whole = false } ∷ []
onto_row b (r ∷ rs) = record { bytes = b ∷ r.bytes; whole = r.whole } ∷ rs

-- the lines of a text
abbrev pub rows_of : List ℕ → List Row
rows_of [] = []
rows_of (b ∷ bs) = if b == 10 then record { bytes = []; whole = true } ∷ rows_of bs else onto_row b (rows_of bs)

-- the text of a line, with the line feed that ended it
abbrev pub row_text : Row → List ℕ
row_text r = if r.whole then r.bytes ++ 10 ∷ [] else r.bytes

-- a line starts here: behind it stands the text of the lines that are still to be read, and nothing else
abbrev pub StartsLine : List ℕ → List Row → ℕ → Type 0
StartsLine text rows place = place + length (flat_map row_text rows) ≡ length text

-- the tokens of a line: the pieces between its spaces, so that two spaces in a row have an empty one between them
abbrev pub words_of : List ℕ → List (List ℕ)
words_of bytes = slice_split (λ b. b == 32) bytes

-- a token starts here, in a line that ends there: behind it stand the tokens that are still to be read, and nothing else
abbrev pub StartsToken : ℕ → List (List ℕ) → ℕ → Type 0
StartsToken end words place = place + length (join_with_byte 32 words) ≡ end

-- the line of these tokens, ended by a line feed
abbrev pub line : List (List ℕ) → List ℕ
line words = join_with_byte 32 words ++ 10 ∷ []

-- a space before each token
abbrev pub fields : List (List ℕ) → List ℕ
fields words = flat_map (λ w. 32 ∷ w) words

-- the text of these lines
abbrev pub text_of : List (List (List ℕ)) → List ℕ
text_of lines = flat_map line lines

-- the lines that are still to be read, and the number of the first of them
pub record Place : Type 0 where
  pub number : ℕ
  pub rows : List Row

-- the place of a text's first line
abbrev pub start : List ℕ → Place
start text = record { number = 1; rows = rows_of text }

-- the place behind the first line
abbrev pub behind : Place → Place
behind p = record { number = p.number + 1; rows = drop 1 p.rows }

-- a text, and how far it was read
pub record Reading : Type 0 where
  pub text : List ℕ
  pub place : Place

-- a text, the end of one of its lines, and the tokens of that line that are still to be read
pub record Words : Type 0 where
  pub text : List ℕ
  pub end : ℕ
  pub words : List (List ℕ)
