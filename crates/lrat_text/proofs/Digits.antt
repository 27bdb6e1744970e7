-- The number that digits spell, and how it is read.
use Rattle.std.proofs.{Common.{◌≡◌, ◌≢◌, ℕ, ◌^◌, ◌<◌, ◌≤◌, true, List, [], ◌∷◌, length, get_or, ap, ◌∙◌, ⊎_elim, arith, ◌&&◌, Ok, Err, decimal, nat_le, nat_lt}, lemmas.Fmt.decimal_digit}
use Rattle.std.{proofs.lemmas.Bool.{and_parts, leb-true, lt-ltb, cases_lt, not-true, eqb-false, ltb-true}, specs.{List.list_all, Str.Parse.AllDigits}}
use Rattle.text_lines.proofs.Numbers.{digit_is, spells}
use Rattle.lrat_text.{specs.{declared.fault.LratTextFault.TheVariants.NumberRange, Tokens.{is_number, number_from}}, proofs.Spelled.number_read}

-- what a number is made of
record IsSpelled (digits : List ℕ) : Type 0 where
  some : 0 < length digits
  each : AllDigits 10 digits
  lead : get_or digits 0 0 ≢ 48

all_digits : (digits : List ℕ) → list_all (λ b. nat_le 48 b && nat_le b 57) digits ≡ true → AllDigits 10 digits
all_digits [] e = tt
all_digits (c ∷ digits) e =
    let (here, rest) = and_parts (nat_le 48 c && nat_le c 57) (list_all (λ b. nat_le 48 b && nat_le b 57) digits) e in
    let (low, high) = and_parts (nat_le 48 c) (nat_le c 57) here in
    let value = digit_is c (leb-true 48 c low) (leb-true c 57 high) in
    (omega (arith, value, leb-true c 57 high), all_digits digits rest)

spelled : (digits : List ℕ) → is_number digits ≡ true → IsSpelled digits
spelled digits e = grind (arith, nat_lt, nat_le, and_parts, ltb-true, all_digits, eqb-false, not-true)

pub number_some : (n : ℕ) (digits : List ℕ) → is_number digits ≡ true → digits ≡ decimal n → 0 < n
number_some n digits e s = grind (arith, ⊎_elim, cases_lt, decimal_digit, spelled)

pub number_found : (place greatest n : ℕ) (digits : List ℕ) → is_number digits ≡ true → digits ≡ decimal n → n ≤ greatest → greatest < 2 ^ 64 → number_from place greatest digits ≡ Ok n
number_found place greatest n digits e s fits room = ap (number_from place greatest) s ∙ number_read n (number_some n digits e s) (omega arith) place greatest fits

pub number_large : (place greatest : ℕ) (digits : List ℕ) → is_number digits ≡ true → ((n : ℕ) → n ≤ greatest → digits ≢ decimal n) → greatest < 2 ^ 64 → number_from place greatest digits ≡ Err (NumberRange place)
number_large place greatest digits e none room = grind (arith, ⊎_elim, lt-ltb, cases_lt, spelled, spells)
