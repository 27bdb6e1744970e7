-- A text says the proof lines that its words spell.
use Rattle.std.proofs.Common.{◌≡◌, ◌↔◌, ℕ, zero, suc, ◌+◌, ◌^◌, ◌<◌, ◌≤◌, Bool, true, false, List, [], ◌∷◌, ◌++◌, length, get_or, map, cond, Option, None, Some, IfSome, pos, refl, sym, ap, ◌∙◌, subst, arith, lit<, append-nil, ◌==◌, ◌&&◌, not, if◌then◌else◌, filter, drop, nat_le, nat_lt, neg_ℤ, option_map, All, decimal, bytes_eq, codes}
use Rattle.std.proofs.lemmas.{Slice.Eq.bytes_eq-Decides, Bool.{and_parts, and_from, leb-true, le-leb, ltb-true, eqb-true, eqb-false, not-true}, Option.IfSome_then, List.Elements.{All-nil, All-cons, All-head, All-tail}}
use Rattle.std.{proofs.lemmas.{Fmt.decimal-digits_value, Str.Parse.{IsDigitsTest, numerals_by_value}}, specs.{List.{list_all, join_with_byte}, Str.Parse.digits_value}}
use Rattle.text_lines.specs.Text.{Row, rows_of}
use Rattle.cnf_formula.specs.{Literals.{LitValue, IsLit}, declared.line.LratLine.{LratLine, TheVariants.{Addition, Deletion}}}
use Rattle.lrat_text.specs.{declared.fault.LratTextFault.TheVariants.BadToken, Tokens.{content, tokens_from, is_number}, Printing.{literal_word, hint_word, closed, line_words, IsId, IsHint, IsReadable}}
use Rattle.lrat_text.proofs.{Digits.number_some, Printed.{whole, row_says_line}}
use Rattle.candidate_formula.specs.ProofTexts.{words_in, is_passed, IsProofText}
use Rattle.candidate_formula.specs.ReadLines.{number_in, is_negative, size_in, literal_in, hint_in, before_zero, closed_by_zero, addition_in, deletion_in, behind_number, line_in, lines_in, lines_said}
use Rattle.candidate_formula.proofs.Said.{front, words, row_words, onto, line_said}

-- ---- words

tells_number : IsDigitsTest (λ ds. list_all (λ b. nat_le 48 b && nat_le b 57) ds ≡ true)
tells_number = record {
  empty = refl;
  parts = λ c cs e.
      let (here, rest) = and_parts (nat_le 48 c && nat_le c 57) (list_all (λ b. nat_le 48 b && nat_le b 57) cs) e in
      let (low, high) = and_parts (nat_le 48 c) (nat_le c 57) here in
      ((leb-true 48 c low, leb-true c 57 high), rest);
  more = λ c cs k rest. and_from (nat_le 48 c && nat_le c 57) (list_all (λ b. nat_le 48 b && nat_le b 57) cs) (and_from (nat_le 48 c) (nat_le c 57) (le-leb 48 c k.0) (le-leb c 57 k.1)) rest;
}

-- a number from 1 to a greatest one
abbrev IsUpTo : ℕ → ℕ → Type 0
IsUpTo greatest n = (0 < n) × (n ≤ greatest)

number_spells : (greatest : ℕ) (digits : List ℕ) → greatest < 2 ^ 64 → IfSome (number_in greatest digits) (λ n. (digits ≡ decimal n) × IsUpTo greatest n)
number_spells greatest digits room = go (is_number digits) (nat_le (digits_value 10 digits) greatest) refl refl
  where
    go : (a b : Bool) → is_number digits ≡ a → nat_le (digits_value 10 digits) greatest ≡ b → IfSome (if a && b then Some (digits_value 10 digits) else None) (λ n. (digits ≡ decimal n) × IsUpTo greatest n)
    go false b e fits = tt
    go true false e fits = tt
    go true true e fits =
        let each = list_all (λ b. nat_le 48 b && nat_le b 57) digits in
        let (front, lead) = and_parts (nat_lt 0 (length digits) && each) (not (get_or digits 0 0 == 48)) e in
        let (some, all) = and_parts (nat_lt 0 (length digits)) each front in
        let small = leb-true (digits_value 10 digits) greatest fits in
        let is = sym (decimal-digits_value (numerals_by_value (λ ds. list_all (λ b. nat_le 48 b && nat_le b 57) ds ≡ true) tells_number) digits all (ltb-true 0 (length digits) some)
        (λ zero. absurd (eqb-false (get_or digits 0 0) 48 (not-true (get_or digits 0 0 == 48) lead) zero)) (omega (arith, small, room))) in
        (is, (number_some (digits_value 10 digits) digits e is, small))

id_spells : (word : List ℕ) → IfSome (number_in 4294967295 word) (λ n. (word ≡ decimal n) × IsId n)
id_spells word = IfSome_then (number_in 4294967295 word) (number_spells 4294967295 word (lit< tt)) (λ n s. (s.0, record { some = s.1.0; small = s.1.1 }))

minus : (word : List ℕ) → is_negative word ≡ true → word ≡ 45 ∷ drop 1 word
minus [] e = absurd (cc)
minus (b ∷ bytes) e = ap (λ c. c ∷ bytes) (eqb-true b 45 e)

-- a minus, if there is one, and the number's digits
abbrev signed : Bool → ℕ → List ℕ
signed negative n = if negative then 45 ∷ decimal n else decimal n

size_spells : (greatest : ℕ) (word : List ℕ) → greatest < 2 ^ 64 → IfSome (size_in greatest word) (λ n. (word ≡ signed (is_negative word) n) × IsUpTo greatest n)
size_spells greatest word room = go (is_negative word) refl
  where
    go : (b : Bool) → is_negative word ≡ b → IfSome (number_in greatest (if b then drop 1 word else word)) (λ n. (word ≡ signed b n) × IsUpTo greatest n)
    go true e = IfSome_then (number_in greatest (drop 1 word)) (number_spells greatest (drop 1 word) room) (λ n s. (minus word e ∙ ap (λ ds. 45 ∷ ds) s.0, s.1))
    go false e = number_spells greatest word room

literal_spells : (word : List ℕ) → IfSome (literal_in word) (λ l. (word ≡ literal_word l) × IsLit l)
literal_spells word = go (is_negative word) (size_in 2147483647 word) (size_spells 2147483647 word (lit< tt))
  where
    go : (b : Bool) (o : Option ℕ) → IfSome o (λ n. (word ≡ signed b n) × IsUpTo 2147483647 n)
        → IfSome (option_map (λ var. record { var = var; positive = not b }) o) (λ (l : LitValue). (word ≡ literal_word l) × IsLit l)
    go b None s = tt
    go true (Some n) s = (s.0, record { some = s.1.0; small = s.1.1 })
    go false (Some n) s = (s.0, record { some = s.1.0; small = s.1.1 })

hint_spells : (word : List ℕ) → IfSome (hint_in word) (λ h. (word ≡ hint_word h) × IsHint h)
hint_spells word = go (is_negative word) (size_in 4294967295 word) (size_spells 4294967295 word (lit< tt))
  where
    go : (b : Bool) (o : Option ℕ) → IfSome o (λ n. (word ≡ signed b n) × IsUpTo 4294967295 n)
        → IfSome (option_map (λ id. if b then neg_ℤ (pos id) else pos id) o) (λ h. (word ≡ hint_word h) × IsHint h)
    go b None s = tt
    go true (Some zero) s = absurd (omega (arith, s.1.0))
    go true (Some (suc n)) s = let more : suc n ≡ n + 1 = omega arith in (s.0 ∙ ap (λ k. 45 ∷ decimal k) more, record { some = omega arith; small = omega (arith, s.1.1) })
    go false (Some n) s = (s.0, record { some = s.1.0; small = s.1.1 })

-- ---- words up to a zero

module _ {A : Type 0} (read : List ℕ → Option A) (word_of : A → List ℕ) (Fits : A → Type 0) (each : (word : List ℕ) → IfSome (read word) (λ x. (word ≡ word_of x) × Fits x)) where
  zero_spells : (words : List (List ℕ)) → IfSome (before_zero read words) (λ p. (words ≡ closed (map word_of p.0) ++ p.1) × All Fits p.0)
  zero_spells [] = tt
  zero_spells (word ∷ words) = go (bytes_eq word (codes "0")) (bytes_eq-Decides word (codes "0")).0 (read word) (each word) (before_zero read words) (zero_spells words)
    where
      go : (b : Bool) → (b ≡ true → word ≡ codes "0") → (o : Option A) → IfSome o (λ x. (word ≡ word_of x) × Fits x)
          → (later : Option (List A × List (List ℕ))) → IfSome later (λ p. (words ≡ closed (map word_of p.0) ++ p.1) × All Fits p.0)
          → IfSome (front b words o later) (λ p. (word ∷ words ≡ closed (map word_of p.0) ++ p.1) × All Fits p.0)
      go true is o s later t = (ap (λ w. w ∷ words) (is refl), All-nil Fits)
      go false is None s later t = tt
      go false is (Some x) s None t = tt
      go false is (Some x) s (Some p) t = (ap (λ w. w ∷ words) s.0 ∙ ap (λ ws. word_of x ∷ ws) t.0, All-cons Fits x p.0 s.1 t.1)

  closed_spells : (words : List (List ℕ)) → IfSome (closed_by_zero read words) (λ xs. (words ≡ closed (map word_of xs)) × All Fits xs)
  closed_spells words = go (before_zero read words) (zero_spells words)
    where
      go : (o : Option (List A × List (List ℕ))) → IfSome o (λ p. (words ≡ closed (map word_of p.0) ++ p.1) × All Fits p.0)
          → IfSome (elim o [ None ↦ None | Some (xs, []) ↦ Some xs | Some (xs, word ∷ more) ↦ None ]) (λ xs. (words ≡ closed (map word_of xs)) × All Fits xs)
      go None s = tt
      go (Some (xs, [])) s = (s.0 ∙ append-nil (closed (map word_of xs)), s.1)
      go (Some (xs, word ∷ more)) s = tt

  -- and what is made of these
  made_spells : {B : Type 0} (make : List A → B) (Says : B → Type 0) (words : List (List ℕ)) → ((xs : List A) → words ≡ closed (map word_of xs) → All Fits xs → Says (make xs)) → IfSome (option_map make (closed_by_zero read words)) Says
  made_spells make Says words says = go (closed_by_zero read words) (closed_spells words)
    where
      go : (o : Option (List A)) → IfSome o (λ xs. (words ≡ closed (map word_of xs)) × All Fits xs) → IfSome (option_map make o) Says
      go None s = tt
      go (Some xs) s = says xs s.0 s.1

-- ---- a line

-- the words are those of this line, and its numbers are none too large
abbrev Spells : List (List ℕ) → LratLine → Type 0
Spells words line = (words ≡ line_words line) × IsReadable line

module _ (id : ℕ) (fits : IsId id) where
  addition_spells : (words : List (List ℕ)) → IfSome (addition_in id words) (Spells (decimal id ∷ words))
  addition_spells words = go (before_zero literal_in words) (zero_spells literal_in literal_word IsLit literal_spells words)
    where
      go : (o : Option (List LitValue × List (List ℕ))) → IfSome o (λ p. (words ≡ closed (map literal_word p.0) ++ p.1) × All IsLit p.0)
          → IfSome (elim o [ None ↦ None | Some lits ↦ option_map (λ hints. Addition (record { id = id; lits = lits.0; hints = hints })) (closed_by_zero hint_in lits.1) ]) (Spells (decimal id ∷ words))
      go None s = tt
      go (Some p) s =
          made_spells hint_in hint_word IsHint hint_spells (λ hints. Addition (record { id = id; lits = p.0; hints = hints })) (Spells (decimal id ∷ words)) p.1
          (λ hints is all. (ap (λ ws. decimal id ∷ ws) (s.0 ∙ ap (λ ws. closed (map literal_word p.0) ++ ws) is), (fits, s.1, all)))

  deletion_spells : (words : List (List ℕ)) → IfSome (deletion_in id words) (Spells (decimal id ∷ codes "d" ∷ words))
  deletion_spells words =
      made_spells (number_in 4294967295) decimal IsId id_spells (λ ids. Deletion (record { id = id; ids = ids })) (Spells (decimal id ∷ codes "d" ∷ words)) words
      (λ ids is all. (ap (λ ws. decimal id ∷ codes "d" ∷ ws) is, (fits, all)))

  behind_spells : (words : List (List ℕ)) → IfSome (behind_number id words) (Spells (decimal id ∷ words))
  behind_spells [] = tt
  behind_spells (word ∷ words) = go (bytes_eq word (codes "d")) (bytes_eq-Decides word (codes "d")).0
    where
      go : (b : Bool) → (b ≡ true → word ≡ codes "d") → IfSome (if b then deletion_in id words else addition_in id (word ∷ words)) (Spells (decimal id ∷ word ∷ words))
      go true is = subst (λ w. IfSome (deletion_in id words) (Spells (decimal id ∷ w ∷ words))) (sym (is refl)) (deletion_spells words)
      go false is = addition_spells (word ∷ words)

line_spells : (words : List (List ℕ)) → IfSome (line_in words) (Spells words)
line_spells [] = tt
line_spells (word ∷ words) = go (number_in 4294967295 word) (id_spells word)
  where
    go : (o : Option ℕ) → IfSome o (λ n. (word ≡ decimal n) × IsId n) → IfSome (elim o [ None ↦ None | Some id ↦ behind_number id words ]) (Spells (word ∷ words))
    go None s = tt
    go (Some id) s = subst (λ w. IfSome (behind_number id words) (Spells (w ∷ words))) (sym s.0) (behind_spells id s.1 words)

-- ---- what a line spells is read

line_read : (line : LratLine) → IsReadable line → line_in (line_words line) ≡ Some line
line_read line h =
    let bytes = join_with_byte 32 (line_words line) in
    let row = whole bytes in
    let said : line_in (words_in row) ≡ Some line = ap line_in (sym (row_words 0 row)) ∙ line_said (BadToken (0 + length bytes)) (tokens_from 0 (content row)) line (row_says_line line 0 h) in
    let spells : Spells (words_in row) line = subst (λ o. IfSome o (Spells (words_in row))) said (line_spells (words_in row)) in
    ap line_in (sym spells.0) ∙ said

-- ---- lines

-- the words of the lines that say something
abbrev spoken : List Row → List (List (List ℕ))
spoken rows = filter (λ words. not (is_passed words)) (map words_in rows)

rows_spell : (rows : List Row) → IfSome (lines_in rows) (λ lines. (spoken rows ≡ map line_words lines) × All IsReadable lines)
rows_spell [] = (refl, All-nil IsReadable)
rows_spell (row ∷ rows) = go (is_passed (words_in row)) (line_in (words_in row)) (line_spells (words_in row)) (lines_in rows) (rows_spell rows)
  where
    go : (b : Bool) (o : Option LratLine) → IfSome o (Spells (words_in row)) → (later : Option (List LratLine)) → IfSome later (λ lines. (spoken rows ≡ map line_words lines) × All IsReadable lines)
        → IfSome (if b then later else onto o later) (λ lines. (cond (not b) (words_in row ∷ spoken rows) (spoken rows) ≡ map line_words lines) × All IsReadable lines)
    go true o s later t = t
    go false None s later t = tt
    go false (Some line) s None t = tt
    go false (Some line) s (Some lines) t = (ap (λ ws. ws ∷ spoken rows) s.0 ∙ ap (λ wss. line_words line ∷ wss) t.0, All-cons IsReadable line lines s.1 t.1)

rows_read : (rows : List Row) (lines : List LratLine) → spoken rows ≡ map line_words lines → All IsReadable lines → lines_in rows ≡ Some lines
rows_read [] [] e h = refl
rows_read [] (line ∷ lines) e h = absurd (cc)
rows_read (row ∷ rows) lines e h = go (is_passed (words_in row)) lines e h (rows_read rows)
  where
    go : (b : Bool) (lines : List LratLine) → cond (not b) (words_in row ∷ spoken rows) (spoken rows) ≡ map line_words lines → All IsReadable lines
        → ((later : List LratLine) → spoken rows ≡ map line_words later → All IsReadable later → lines_in rows ≡ Some later) → (if b then lines_in rows else onto (line_in (words_in row)) (lines_in rows)) ≡ Some lines
    go true lines e h read = read lines e h
    go false [] e h read = absurd (cc)
    go false (line ∷ lines) e h read =
        let first : words_in row ≡ line_words line = cc in
        let rest : spoken rows ≡ map line_words lines = cc in
        ap (λ o. onto o (lines_in rows)) (ap line_in first ∙ line_read line (All-head IsReadable line lines h)) ∙ ap (onto (Some line)) (read lines rest (All-tail IsReadable line lines h))

pub text_spells : {bytes : List ℕ} {lines : List LratLine} → lines_said bytes ≡ Some lines → IsProofText bytes lines
text_spells {bytes = bytes} {lines = lines} e =
    let s : (spoken (rows_of bytes) ≡ map line_words lines) × All IsReadable lines =
    subst (λ o. IfSome o (λ ls. (spoken (rows_of bytes) ≡ map line_words ls) × All IsReadable ls)) e (rows_spell (rows_of bytes)) in
    record { spelled = s.0; numbers = s.1 }

pub text_read : {bytes : List ℕ} {lines : List LratLine} → IsProofText bytes lines → lines_said bytes ≡ Some lines
text_read {bytes = bytes} {lines = lines} is = rows_read (rows_of bytes) lines is.spelled is.numbers

pub read_as_spelled : (bytes : List ℕ) (lines : List LratLine) → (lines_said bytes ≡ Some lines) ↔ IsProofText bytes lines
read_as_spelled bytes lines = (text_spells, text_read)
