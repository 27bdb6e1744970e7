-- The lines of a text without the faults are those with them.
use Rattle.std.proofs.Common.{◌≡◌, ℕ, ◌+◌, Bool, true, false, List, [], ◌∷◌, length, map, Option, None, Some, Result, Ok, Err, ℤ, refl, sym, ap, ◌∙◌, arith, ◌↔◌, ◌==◌, ◌&&◌, ◌||◌, not, if◌then◌else◌, filter, slice_index, nat_le, nat_lt, option_map, neg_ℤ, bytes_eq, codes}
use Rattle.std.{proofs.lemmas.Bool.Decides.nat_tests, specs.{List.slice_split, Str.Parse.digits_value}}
use Rattle.text_lines.specs.{Text.{Row, rows_of}, Check.{◌>>=◌, refuse}}
use Rattle.cnf_formula.specs.{Literals.LitValue, declared.line.LratLine.{LratLine, TheVariants.{Addition, Deletion}}}
use Rattle.lrat_text.specs.{declared.fault.LratTextFault.{LratTextFault, TheVariants.{BadToken, NumberRange}}, Tokens.{Token, placed_from, tokens_from, content, is_number, number_from, id_of, literal_of, hint_of}}
use Rattle.lrat_text.specs.Reading.{up_to_zero, no_more, addition_of, deletion_of, behind_id, line_of, size_of}
use Rattle.candidate_formula.specs.{Lines.{in_front, lines_from, lines_of_text}, ProofTexts.{words_in, is_passed}}
use Rattle.candidate_formula.specs.ReadLines.{number_in, literal_in, hint_in, before_zero, closed_by_zero, addition_in, deletion_in, behind_number, line_in, lines_in, lines_said}

abbrev pub plain : {A : Type 0} → Result A LratTextFault → Option A
plain (Ok x) = Some x
plain (Err fault) = None

-- ---- a word

number_steps : (place n : ℕ) (a x y : Bool) → x ≡ not y → plain (refuse (not a) (BadToken place) >>= (λ _. refuse x (NumberRange place) >>= (λ _. Ok n))) ≡ (if a && y then Some n else None)
number_steps place n a x y e = grind (arith, nat_tests)

above : (greatest n : ℕ) → nat_lt greatest n ≡ not (nat_le n greatest)
above greatest n = grind (arith, nat_tests)

number_plain : (place greatest : ℕ) (digits : List ℕ) → plain (number_from place greatest digits) ≡ number_in greatest digits
number_plain place greatest digits =
    number_steps place (digits_value 10 digits) (is_number digits) (nat_lt greatest (digits_value 10 digits)) (nat_le (digits_value 10 digits) greatest) (above greatest (digits_value 10 digits))

mapped : {A B : Type 0} (f : A → B) (r : Result A LratTextFault) → plain (r >>= (λ x. Ok (f x))) ≡ option_map f (plain r)
mapped f (Ok x) = refl
mapped f (Err fault) = refl

literal_plain : (t : Token) → plain (literal_of t) ≡ literal_in t.bytes
literal_plain t = grind (arith, mapped, option_map, number_plain)

hint_plain : (t : Token) → plain (hint_of t) ≡ hint_in t.bytes
hint_plain t = grind (arith, neg_ℤ, mapped, option_map, number_plain)

id_plain : (t : Token) → plain (id_of t) ≡ number_in 4294967295 t.bytes
id_plain t = number_plain t.place 4294967295 t.bytes

-- ---- words up to a zero

abbrev pub words : List Token → List (List ℕ)
words ts = map (λ t. t.bytes) ts

abbrev as_words : {A : Type 0} → List A × List Token → List A × List (List ℕ)
as_words p = (p.0, words p.1)

abbrev pub front : {A : Type 0} → Bool → List (List ℕ) → Option A → Option (List A × List (List ℕ)) → Option (List A × List (List ℕ))
front b behind o more = if b then Some ([], behind) else elim o [
  | None ↦ None
  | Some x ↦ option_map (λ more. (x ∷ more.0, more.1)) more
]

front_plain : {A : Type 0} (b : Bool) (ts : List Token) (r : Result A LratTextFault) (more : Result (List A × List Token) LratTextFault)
    → option_map as_words (plain (if b then Ok ([], ts) else (r >>= (λ x. more >>= (λ p. Ok (x ∷ p.0, p.1)))))) ≡ front b (words ts) (plain r) (option_map as_words (plain more))
front_plain true ts r more = refl
front_plain false ts (Err fault) more = refl
front_plain false ts (Ok x) (Err fault) = refl
front_plain false ts (Ok x) (Ok p) = refl

module _ {A : Type 0} (read : Token → Result A LratTextFault) (plainly : List ℕ → Option A) (same : (t : Token) → plain (read t) ≡ plainly t.bytes) (lack : LratTextFault) where
  zero_plain : (ts : List Token) → option_map as_words (plain (up_to_zero read lack ts)) ≡ before_zero plainly (words ts)
  zero_plain [] = refl
  zero_plain (t ∷ ts) = grind (arith, front_plain, bytes_eq, option_map, zero_plain ts)

  abbrev closing : Option (List A × List (List ℕ)) → Option (List A)
  closing o = elim o [
    | None ↦ None
    | Some (xs, []) ↦ Some xs
    | Some (xs, word ∷ more) ↦ None
  ]

  closing_plain : {B : Type 0} (f : List A → B) (r : Result (List A × List Token) LratTextFault) → plain (r >>= (λ p. no_more p.1 >>= (λ _. Ok (f p.0)))) ≡ option_map f (closing (option_map as_words (plain r)))
  closing_plain f (Err fault) = refl
  closing_plain f (Ok (xs, [])) = refl
  closing_plain f (Ok (xs, t ∷ ts)) = refl

  closed_plain : {B : Type 0} (f : List A → B) (ts : List Token) → plain (up_to_zero read lack ts >>= (λ p. no_more p.1 >>= (λ _. Ok (f p.0)))) ≡ option_map f (closed_by_zero plainly (words ts))
  closed_plain f ts = closing_plain f (up_to_zero read lack ts) ∙ ap (λ o. option_map f (closing o)) (zero_plain ts)

-- ---- a line

module _ (lack : LratTextFault) (id : ℕ) where
  abbrev with_hints : List LitValue → List ℤ → LratLine
  with_hints lits hints = Addition (record { id = id; lits = lits; hints = hints })

  abbrev from_lits : Option (List LitValue × List (List ℕ)) → Option LratLine
  from_lits o = elim o [
    | None ↦ None
    | Some lits ↦ option_map (λ hints. Addition (record { id = id; lits = lits.0; hints = hints })) (closed_by_zero hint_in lits.1)
  ]

  lits_plain : (r : Result (List LitValue × List Token) LratTextFault)
      → plain (r >>= (λ lits. up_to_zero hint_of lack lits.1 >>= (λ hints. no_more hints.1 >>= (λ _. Ok (Addition (record { id = id; lits = lits.0; hints = hints.0 })))))) ≡ from_lits (option_map as_words (plain r))
  lits_plain (Err fault) = refl
  lits_plain (Ok lits) = closed_plain hint_of hint_in hint_plain lack (with_hints lits.0) lits.1

  addition_plain : (ts : List Token) → plain (addition_of lack id ts) ≡ addition_in id (words ts)
  addition_plain ts = lits_plain (up_to_zero literal_of lack ts) ∙ ap from_lits (zero_plain literal_of literal_in literal_plain lack ts)

  deletion_plain : (ts : List Token) → plain (deletion_of lack id ts) ≡ deletion_in id (words ts)
  deletion_plain ts = closed_plain id_of (number_in 4294967295) id_plain lack (λ ids. Deletion (record { id = id; ids = ids })) ts

  chosen : (b : Bool) (one other : Result LratLine LratTextFault) (o p : Option LratLine) → plain one ≡ o → plain other ≡ p → plain (if b then one else other) ≡ (if b then o else p)
  chosen true one other o p e f = e
  chosen false one other o p e f = f

  behind_plain : (ts : List Token) → plain (behind_id lack id ts) ≡ behind_number id (words ts)
  behind_plain [] = refl
  behind_plain (t ∷ ts) =
      chosen (bytes_eq t.bytes (codes "d")) (deletion_of lack id ts) (addition_of lack id (t ∷ ts)) (deletion_in id (words ts)) (addition_in id (words (t ∷ ts)))
      (deletion_plain ts) (addition_plain (t ∷ ts))

module _ (lack : LratTextFault) (t : Token) (ts : List Token) where
  abbrev numbered : Option ℕ → Option LratLine
  numbered o = elim o [
    | None ↦ None
    | Some id ↦ behind_number id (words ts)
  ]

  numbered_plain : (r : Result ℕ LratTextFault) → plain (r >>= (λ id. behind_id lack id ts)) ≡ numbered (plain r)
  numbered_plain (Err fault) = refl
  numbered_plain (Ok id) = behind_plain lack id ts

  line_plain : plain (id_of t >>= (λ id. behind_id lack id ts)) ≡ line_in (words (t ∷ ts))
  line_plain = numbered_plain (id_of t) ∙ ap numbered (id_plain t)

-- what says a line as tokens says it as words
pub line_said : (lack : LratTextFault) (ts : List Token) (line : LratLine) → line_of lack ts ≡ Some (Ok line) → line_in (words ts) ≡ Some line
line_said lack [] line e = absurd (cc)
line_said lack (t ∷ ts) line e = go (slice_index t.bytes 0 == 99) e
  where
    go : (b : Bool) → (if b then None else Some (id_of t >>= (λ id. behind_id lack id ts))) ≡ Some (Ok line) → line_in (words (t ∷ ts)) ≡ Some line
    go true is = absurd (cc)
    go false is = let same : (id_of t >>= (λ id. behind_id lack id ts)) ≡ Ok line = cc in sym (line_plain lack t ts) ∙ ap plain same

-- ---- lines

some_words : (place : ℕ) (pieces : List (List ℕ)) → words (filter (λ t. nat_lt 0 (length t.bytes)) (placed_from place pieces)) ≡ filter (λ word. nat_lt 0 (length word)) pieces
some_words place [] = refl
some_words place (piece ∷ pieces) = grind (arith, some_words (place + length piece + 1) pieces)

pub row_words : (place : ℕ) (row : Row) → words (tokens_from place (content row)) ≡ words_in row
row_words place row = some_words place (slice_split (λ b. b == 32 || b == 9) (content row))

abbrev pub onto : Option LratLine → Option (List LratLine) → Option (List LratLine)
onto o later = elim o [
  | None ↦ None
  | Some line ↦ option_map (λ lines. line ∷ lines) later
]

abbrev with_row : List (List ℕ) → Option (List LratLine) → Option (List LratLine)
with_row ws later = if is_passed ws then later else onto (line_in ws) later

onto_plain : (said : Result LratLine LratTextFault) (later : Result (List LratLine) LratTextFault) → plain (in_front (Some said) later) ≡ onto (plain said) (plain later)
onto_plain (Err fault) later = refl
onto_plain (Ok line) (Err fault) = refl
onto_plain (Ok line) (Ok lines) = refl

row_plain : (lack : LratTextFault) (ts : List Token) (later : Result (List LratLine) LratTextFault) → plain (in_front (line_of lack ts) later) ≡ with_row (words ts) (plain later)
row_plain lack [] later = refl
row_plain lack (t ∷ ts) later = grind (arith, slice_index, onto_plain, line_plain)

rows_plain : (place : ℕ) (rows : List Row) → plain (lines_from place rows) ≡ lines_in rows
rows_plain place [] = refl
rows_plain place (row ∷ rows) = grind (arith, row_plain, row_words, rows_plain (place + size_of row) rows)

pub said_plain : (bytes : List ℕ) → plain (lines_of_text bytes) ≡ lines_said bytes
said_plain bytes = rows_plain 0 (rows_of bytes)

pub said_exactly : (bytes : List ℕ) (lines : List LratLine) → (lines_of_text bytes ≡ Ok lines) ↔ (lines_said bytes ≡ Some lines)
said_exactly bytes lines = (λ e. sym (said_plain bytes) ∙ ap plain e, λ e. go (lines_of_text bytes) (said_plain bytes ∙ e))
  where
    go : (said : Result (List LratLine) LratTextFault) → plain said ≡ Some lines → said ≡ Ok lines
    go (Ok found) e = let same : found ≡ lines = cc in ap (λ ls. Ok ls) same
    go (Err fault) e = absurd (cc)
