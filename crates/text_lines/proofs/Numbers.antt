-- Which numbers a token spells.
use Rattle.std.proofs.{Common.{◌≡◌, ◌≢◌, ℕ, ◌+◌, ◌-◌, ◌*◌, ◌^◌, ◌<◌, ◌≤◌, List, length, get_or, take, None, Some, sym, ap, ◌∙◌, arith, decimal, bytes_eq}, lemmas.{Grind.common_steps, Bool.Decides.nat_tests, Slice.Eq.bytes_eq-Decides}}
use Rattle.std.proofs.lemmas.{Bool.{and_parts, and_from, leb-true, le-leb, cases_lt, cond-true, cond-false, false_from_ne_true}, Int.Digits.digits_value_more, Str.Parse.{numerals_by_value, tells_digits, digit_at, digits_value-take-le}}
use Rattle.std.{proofs.lemmas.Fmt.{decimal_is_IsNumeral, decimal_nonempty, first_decimal, decimal_digit, decimal-digits_value}, specs.{Char.digit_value, Str.Parse.{AllDigits, digits_value}}}
use Rattle.text_lines.specs.Number.{number_up_to}

pub value_of_decimal : (n : ℕ) → n < 2 ^ 64 → digits_value 10 (decimal n) ≡ n
value_of_decimal n small = (decimal_is_IsNumeral n small).1

pub digit_is : (c : ℕ) → 48 ≤ c → c ≤ 57 → digit_value c ≡ c - 48
digit_is c low high = grind (arith, nat_tests)

pub empty_not : (token : List ℕ) (n : ℕ) → n < 2 ^ 64 → length token ≡ 0 → token ≢ decimal n
empty_not token n small none e = omega (arith, ap length e, decimal_nonempty n small)

pub zero_not : (token : List ℕ) (n : ℕ) → n < 2 ^ 64 → 1 < length token → get_or token 0 0 ≡ 48 → token ≢ decimal n
zero_not token n small long lead e = grind (arith, cases_lt, first_decimal, decimal_digit)

-- the next byte is no digit, or the number with it doesn't fit
pub next_not : (token : List ℕ) (i value byte n : ℕ) → i < length token → value ≡ digits_value 10 (take i token) → byte ≡ get_or token i 0 → (digit_value byte < 10 → 2 ^ 64 ≤ value * 10 + digit_value byte) → n < 2 ^ 64 → token ≢ decimal n
next_not token i value byte n h read here fails small e = grind (arith, nat_tests, common_steps, digits_value_more, digit_at, decimal_is_IsNumeral, digit_is, digits_value-take-le, value_of_decimal)

pub greater_not : (token : List ℕ) (n greatest : ℕ) → n < 2 ^ 64 → n ≤ greatest → greatest < digits_value 10 token → token ≢ decimal n
greater_not token n greatest small fits greater e = grind (arith, value_of_decimal)

pub larger_not : (token : List ℕ) (number greatest n : ℕ) → token ≡ decimal number → number < 2 ^ 64 → greatest < number → n ≤ greatest → token ≢ decimal n
larger_not token number greatest n spelled small larger fits e =
    let value : digits_value 10 token ≡ number = ap (digits_value 10) spelled ∙ value_of_decimal number small in
    greater_not token n greatest (omega arith) fits (omega arith) e

pub spells : (token : List ℕ) → AllDigits 10 token → 0 < length token → (get_or token 0 0 ≡ 48 → length token ≡ 1) → digits_value 10 token < 2 ^ 64 → token ≡ decimal (digits_value 10 token)
spells token digits some lead small = sym (decimal-digits_value (numerals_by_value (AllDigits 10) tells_digits) token digits some lead small)

pub up_to_some : (greatest n : ℕ) (token : List ℕ) → greatest < 2 ^ 64 → token ≡ decimal n → n ≤ greatest → number_up_to greatest token ≡ Some n
up_to_some greatest n token room e fits = grind (arith, value_of_decimal, bytes_eq, bytes_eq-Decides, cond-true, and_from, le-leb)

pub up_to_none : (greatest : ℕ) (token : List ℕ) → ((n : ℕ) → n ≤ greatest → token ≢ decimal n) → number_up_to greatest token ≡ None
up_to_none greatest token no_number = grind (arith, cond-false, false_from_ne_true, bytes_eq, and_parts, leb-true, bytes_eq-Decides)

pub up_to_larger : (greatest n : ℕ) (token : List ℕ) → token ≡ decimal n → n < 2 ^ 64 → greatest < n → number_up_to greatest token ≡ None
up_to_larger greatest n token spelled small larger = up_to_none greatest token (λ m fits. larger_not token n greatest m spelled small larger fits)

pub up_to_absent : (greatest : ℕ) (token : List ℕ) → greatest < 2 ^ 64 → ((n : ℕ) → n < 2 ^ 64 → token ≢ decimal n) → number_up_to greatest token ≡ None
up_to_absent greatest token room absent = up_to_none greatest token (λ m fits. absent m (omega arith))

pub up_to_found : (greatest n : ℕ) (token : List ℕ) → number_up_to greatest token ≡ Some n → (token ≡ decimal n) × (n ≤ greatest)
up_to_found greatest n token e = grind (arith, bytes_eq, bytes_eq-Decides, leb-true)
