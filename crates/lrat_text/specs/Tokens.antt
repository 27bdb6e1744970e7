-- A line as tokens with their places, and what a token says where it stands (LRAT: Cruz-Filipe et al. 2017; the leniency is this project's own).
use Rattle.std.specs.Prelude.{ℕ, ◌+◌, ◌-◌, ◌==◌, ◌&&◌, ◌||◌, not, Bool, if◌then◌else◌, List, [], ◌∷◌, length, take, drop, filter, slice_index, nat_le, nat_lt, Result, Ok, ℤ, pos, neg_ℤ, bytes_eq}
use Rattle.std.specs.{List.{list_all, slice_split}, Str.Parse.digits_value}
use Rattle.text_lines.specs.{Text.Row, Check.{◌>>=◌, refuse}}
use Rattle.cnf_formula.specs.Literals.{LitValue}
use Rattle.lrat_text.specs.declared.fault.LratTextFault.{LratTextFault, TheVariants.{BadToken, NumberRange}}

-- the offset of its first byte, and its bytes
pub record Token : Type 0 where
  pub place : ℕ
  pub bytes : List ℕ

-- pieces that a byte parts, from this place on
abbrev pub placed_from : ℕ → List (List ℕ) → List Token
placed_from place [] = []
placed_from place (piece ∷ pieces) = record { place = place; bytes = piece } ∷ placed_from (place + length piece + 1) pieces

-- tokens stand between any number of spaces and tabs
abbrev pub tokens_from : ℕ → List ℕ → List Token
tokens_from place bytes = filter (λ t. nat_lt 0 (length t.bytes)) (placed_from place (slice_split (λ b. b == 32 || b == 9) bytes))

-- a byte 13 directly before the line feed does not belong to the line
abbrev pub content : Row → List ℕ
content row = if row.whole && slice_index row.bytes (length row.bytes - 1) == 13 then take (length row.bytes - 1) row.bytes else row.bytes

abbrev pub is_word : List ℕ → Token → Bool
is_word word t = bytes_eq t.bytes word

-- digits without a leading zero
abbrev pub is_number : List ℕ → Bool
is_number bytes = nat_lt 0 (length bytes) && list_all (λ b. nat_le 48 b && nat_le b 57) bytes && not (slice_index bytes 0 == 48)

-- the number from 1 to a greatest one that the digits spell
abbrev pub number_from : ℕ → ℕ → List ℕ → Result ℕ LratTextFault
number_from place greatest digits = do
  _ ← refuse (not (is_number digits)) (BadToken place)
  _ ← refuse (nat_lt greatest (digits_value 10 digits)) (NumberRange place)
  Ok (digits_value 10 digits)

abbrev pub id_of : Token → Result ℕ LratTextFault
id_of t = number_from t.place 4294967295 t.bytes

abbrev pub has_minus : Token → Bool
has_minus t = slice_index t.bytes 0 == 45

abbrev pub after_minus : Token → List ℕ
after_minus t = if has_minus t then drop 1 t.bytes else t.bytes

abbrev pub literal_of : Token → Result LitValue LratTextFault
literal_of t = do
  var ← number_from t.place 2147483647 (after_minus t)
  Ok (record { var = var; positive = not (has_minus t) })

abbrev pub hint_of : Token → Result ℤ LratTextFault
hint_of t = do
  id ← number_from t.place 4294967295 (after_minus t)
  Ok (if has_minus t then neg_ℤ (pos id) else pos id)
