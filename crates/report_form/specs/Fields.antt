-- The checks of a line's tokens for their shape, from left to right. This project's own text.
use Rattle.std.specs.{Prelude.{◌==◌, ◌&&◌, not, ℕ, Bool, false, if◌then◌else◌, List, [], ◌∷◌, length, drop, nat_le, bytes_eq, Option, None, Some, Result, Ok, Err}, List.list_all, Str.Parse.digits_value}
use Rattle.text_lines.specs.{Check.{◌>>=◌, refuse, need}, Number.number_up_to, Repeated.begins}
use Rattle.topology_text.specs.Reading.{node_of}
use Rattle.report_form.specs.declared.fault.ReportCode.{ReportCode, TheVariants.BadLine}

-- 0 to 9
abbrev pub is_digit : ℕ → Bool
is_digit b = nat_le 48 b && nat_le b 57

-- digits, of which the first is no 0 unless it is the only one
abbrev pub is_number : List ℕ → Bool
is_number [] = false
is_number (b ∷ []) = is_digit b
is_number (b ∷ c ∷ bs) = not (b == 48) && list_all is_digit (b ∷ c ∷ bs)

-- the number that the token spells in canonical decimal, of any size
abbrev pub any_number : List ℕ → Option ℕ
any_number token = if is_number token then Some (digits_value 10 token) else None

-- the number that the token spells, where it is at most 65,535
abbrev pub small_number : List ℕ → Option ℕ
small_number token = number_up_to 65535 token

-- the next token, read so, and the tokens behind it
abbrev pub next_word : {A : Type 0} → (List ℕ → Option A) → List (List ℕ) → Result (A × List (List ℕ)) ReportCode
next_word read [] = Err BadLine
next_word read (w ∷ ws) = do
  x ← need (read w) BadLine
  Ok (x, ws)

-- what stands behind the key, where the token begins with it
abbrev pub behind_key : {A : Type 0} → List ℕ → (List ℕ → Option A) → List ℕ → Option A
behind_key key read w = if begins key w then read (drop (length key) w) else None

-- the next token is a key and a value, which is read so
abbrev pub next_keyed : {A : Type 0} → List ℕ → (List ℕ → Option A) → List (List ℕ) → Result (A × List (List ℕ)) ReportCode
next_keyed key read words = next_word (behind_key key read) words

-- the next token is this word; what stands behind it
abbrev pub fixed_word : List ℕ → List (List ℕ) → Result (List (List ℕ)) ReportCode
fixed_word word [] = Err BadLine
fixed_word word (w ∷ ws) = do
  _ ← refuse (not (bytes_eq w word)) BadLine
  Ok ws

-- the next token is a small number
abbrev pub next_number : List (List ℕ) → Result (ℕ × List (List ℕ)) ReportCode
next_number words = next_word small_number words

-- the next token names a node
abbrev pub next_node : List (List ℕ) → List (List ℕ) → Result (ℕ × List (List ℕ)) ReportCode
next_node names words = next_word (node_of names) words

-- no token is left
abbrev pub no_more : List (List ℕ) → Result (Unit {0}) ReportCode
no_more [] = Ok tt
no_more (w ∷ ws) = Err BadLine
