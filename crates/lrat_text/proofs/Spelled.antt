-- The words of numbers, literals and hints are read as what they spell.
use Rattle.std.proofs.lemmas.Grind.{common_steps}
use Rattle.std.proofs.Common.{◌≡◌, ◌⊎◌, inl, inr, ℕ, suc, ◌+◌, ◌^◌, ◌<◌, ◌≤◌, Bool, true, false, List, [], ◌∷◌, length, get_or, drop, Result, Ok, refl, ap, ◌∙◌, ⊎_elim, arith, lit<, ◌&&◌, ◌==◌, not, nat_lt, nat_le, if◌then◌else◌, ℤ, pos, negsuc, neg_ℤ, decimal, bytes_eq, codes}
use Rattle.std.{specs.{List.list_all, Str.Parse.{AllDigits, digits_value}}, proofs.lemmas.Fmt.{decimal_is_IsNumeral, decimal_nonempty, first_decimal}}
use Rattle.std.proofs.lemmas.{Bool.{and_from, ne_eqb, lt-ltb, le-ltb, false_from_ne_true, cases_Bool}, Slice.Eq.bytes_eq-Decides, Str.Parse.digit_from_value}
use Rattle.cnf_formula.specs.Literals.{LitValue, IsLit}
use Rattle.lrat_text.{specs.{declared.fault.LratTextFault.LratTextFault, Printing.{literal_word, hint_word, IsId, IsHint}}, proofs.Blanks.token}
use Rattle.lrat_text.specs.Tokens.{Token, is_word, is_number, number_from, has_minus, after_minus, id_of, literal_of, hint_of}

-- a word of bytes above the space
pub record IsWord (word : List ℕ) : Type 0 where
  pub some : 0 < length word
  pub above : list_all (λ b. nat_lt 32 b) word ≡ true

-- ---- numbers

digits_pass : (ds : List ℕ) → AllDigits 10 ds → list_all (λ b. nat_le 48 b && nat_le b 57) ds ≡ true
digits_pass [] a = refl
digits_pass (c ∷ ds) a = grind (arith, digit_from_value c a.0, digits_pass ds a.1)

digits_above : (ds : List ℕ) → AllDigits 10 ds → list_all (λ b. nat_lt 32 b) ds ≡ true
digits_above [] a = refl
digits_above (c ∷ ds) a = grind (arith, digit_from_value c a.0, digits_above ds a.1)

first_digit : (ds : List ℕ) → 0 < length ds → AllDigits 10 ds → get_or ds 0 0 ≤ 57
first_digit ds some a = grind (arith, common_steps, digit_from_value)

module _ (n : ℕ) (some : 0 < n) (small : n < 2 ^ 64) where
  decimal_first : (48 < get_or (decimal n) 0 0) × (get_or (decimal n) 0 0 ≤ 57)
  decimal_first = (first_decimal n some small, first_digit (decimal n) (decimal_nonempty n small) (decimal_is_IsNumeral n small).0.1)

  pub decimal_word : IsWord (decimal n)
  decimal_word = record { some = decimal_nonempty n small; above = digits_above (decimal n) (decimal_is_IsNumeral n small).0.1 }

  decimal_number : is_number (decimal n) ≡ true
  decimal_number =
      let digits = digits_pass (decimal n) (decimal_is_IsNumeral n small).0.1 in
      let lead : (get_or (decimal n) 0 0 == 48) ≡ false = ne_eqb (get_or (decimal n) 0 0) 48 (λ e. omega (arith, e, decimal_first.0)) in
      and_from (nat_lt 0 (length (decimal n)) && list_all (λ b. nat_le 48 b && nat_le b 57) (decimal n)) (not (get_or (decimal n) 0 0 == 48))
      (and_from (nat_lt 0 (length (decimal n))) (list_all (λ b. nat_le 48 b && nat_le b 57) (decimal n)) (lt-ltb 0 (length (decimal n)) (decimal_nonempty n small)) digits)
      (ap not lead)

  pub number_read : (place greatest : ℕ) → n ≤ greatest → number_from place greatest (decimal n) ≡ Ok n
  number_read place greatest fits =
      let value : digits_value 10 (decimal n) ≡ n = (decimal_is_IsNumeral n small).1 in
      let within : nat_lt greatest (digits_value 10 (decimal n)) ≡ false = le-ltb greatest (digits_value 10 (decimal n)) (omega (arith, value, fits)) in
      rw (decimal_number, number_from) (rw within (ap (λ v. Ok v) value))

  pub other_first : (b : ℕ) (bytes : List ℕ) → b ≤ 48 ⊎ 57 < b → bytes_eq (decimal n) (b ∷ bytes) ≡ false
  other_first b bytes other = false_from_ne_true (bytes_eq (decimal n) (b ∷ bytes)) (λ t.
      let e : get_or (decimal n) 0 0 ≡ b = ap (λ ds. get_or ds 0 0) ((bytes_eq-Decides (decimal n) (b ∷ bytes)).0 t) in
      ⊎_elim (λ low. omega (arith, e, low, decimal_first.0)) (λ high. omega (arith, e, high, decimal_first.1)) other)

  pub no_minus : (place : ℕ) → has_minus (token place (decimal n)) ≡ false
  no_minus place = ne_eqb (get_or (decimal n) 0 0) 45 (λ e. omega (arith, e, decimal_first.0))

  pub no_comment : (get_or (decimal n) 0 0 == 99) ≡ false
  no_comment = ne_eqb (get_or (decimal n) 0 0) 99 (λ e. omega (arith, e, decimal_first.1))

-- ---- words

-- the word closes nothing, and is read as the value wherever it stands
pub record ReadsAs {A : Type 0} (read : Token → Result A LratTextFault) (word : List ℕ) (x : A) : Type 0 where
  pub is_a_word : IsWord word
  pub no_zero : (place : ℕ) → is_word (codes "0") (token place word) ≡ false
  pub no_d : (place : ℕ) → is_word (codes "d") (token place word) ≡ false
  pub reads : (place : ℕ) → read (token place word) ≡ Ok x

small_id : (n : ℕ) → n ≤ 4294967295 → n < 2 ^ 64
small_id n h = let big : 4294967295 < 2 ^ 64 = lit< tt in omega (arith, h, big)

small_var : (n : ℕ) → n ≤ 2147483647 → n < 2 ^ 64
small_var n h = let big : 2147483647 < 2 ^ 64 = lit< tt in omega (arith, h, big)

pub id_reads : (n : ℕ) → IsId n → ReadsAs id_of (decimal n) n
id_reads n i = grind (arith, small_id n i.small, decimal_word n i.some, other_first n i.some, number_read n i.some)

minus_word : (n : ℕ) → 0 < n → n < 2 ^ 64 → IsWord (45 ∷ decimal n)
minus_word n some small = record { some = omega arith; above = (decimal_word n some small).above }

literal_by : (t : Token) (minus : Bool) (digits : List ℕ) (n : ℕ) → has_minus t ≡ minus → after_minus t ≡ digits → number_from t.place 2147483647 digits ≡ Ok n → literal_of t ≡ Ok (record { var = n; positive = not minus })
literal_by t minus digits n m d r = grind arith

hint_by : (t : Token) (minus : Bool) (digits : List ℕ) (n : ℕ) → has_minus t ≡ minus → after_minus t ≡ digits → number_from t.place 4294967295 digits ≡ Ok n → hint_of t ≡ Ok (if minus then neg_ℤ (pos n) else pos n)
hint_by t minus digits n m d r = grind (arith, neg_ℤ)

plain_digits : (n place : ℕ) → has_minus (token place (decimal n)) ≡ false → after_minus (token place (decimal n)) ≡ decimal n
plain_digits n place m = ap (λ b. if b then drop 1 (decimal n) else decimal n) m

pub literal_reads : (l : LitValue) → IsLit l → ReadsAs literal_of (literal_word l) l
literal_reads l i =
    let n = l.var in
    let small = small_var n i.small in
    ⊎_elim (λ p. rw p (record {
      is_a_word = decimal_word n i.some small;
      no_zero = λ place. other_first n i.some small 48 [] (inl (omega arith));
      no_d = λ place. other_first n i.some small 100 [] (inr (omega arith));
      reads = λ place.
          let m = no_minus n i.some small place in
          literal_by (token place (decimal n)) false (decimal n) n m (plain_digits n place m) (number_read n i.some small place 2147483647 i.small);
    }))
    (λ f. rw f (record {
      is_a_word = minus_word n i.some small;
      no_zero = λ place. refl;
      no_d = λ place. refl;
      reads = λ place. literal_by (token place (45 ∷ decimal n)) true (decimal n) n refl refl (number_read n i.some small place 2147483647 i.small);
    }))
    (cases_Bool l.positive)

pub hint_reads : (h : ℤ) → IsHint h → ReadsAs hint_of (hint_word h) h
hint_reads (pos n) i =
    let small = small_id n i.small in
    record {
      is_a_word = decimal_word n i.some small;
      no_zero = λ place. other_first n i.some small 48 [] (inl (omega arith));
      no_d = λ place. other_first n i.some small 100 [] (inr (omega arith));
      reads = λ place.
          let m = no_minus n i.some small place in
          hint_by (token place (decimal n)) false (decimal n) n m (plain_digits n place m) (number_read n i.some small place 4294967295 i.small);
    }
hint_reads (negsuc n) i =
    let small = small_id (n + 1) i.small in
    let e : n + 1 ≡ suc n = omega arith in
    record {
      is_a_word = minus_word (n + 1) i.some small;
      no_zero = λ place. refl;
      no_d = λ place. refl;
      reads = λ place. hint_by (token place (45 ∷ decimal (n + 1))) true (decimal (n + 1)) (n + 1) refl refl (number_read (n + 1) i.some small place 4294967295 i.small) ∙ ap (λ k. Ok (neg_ℤ (pos k))) e;
    }
