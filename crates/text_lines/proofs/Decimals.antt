-- Decimal numbers, one, two and four digits at a time.
use Rattle.std.proofs.{Common.{◌≡◌, ℕ, ◌+◌, ◌/◌, ◌%◌, ◌^◌, ◌<◌, ◌≤◌, List, [], ◌∷◌, ◌++◌, length, sym, ap, ◌∙◌, arith, append_assoc, length-append, decimal}, lemmas.Fmt.{decimal_digit, decimal_step, length-decimal-le}}

-- the two digits of a number below 100
abbrev pub pair : ℕ → List ℕ
pair n = (48 + n / 10) ∷ (48 + n % 10) ∷ []

pub decimal_one : (n : ℕ) → n < 10 → decimal n ≡ (48 + n) ∷ []
decimal_one n low = decimal_digit n low

pub length_one : (n : ℕ) → n < 10 → length (decimal n) ≡ 1
length_one n low = ap length (decimal_digit n low)

pub decimal_two : (n : ℕ) → 10 ≤ n → n < 100 → decimal n ≡ pair n
decimal_two n high low = rw (decimal_step n high (omega arith), decimal_digit (n / 10) (omega arith))

pub length_two : (n : ℕ) → 10 ≤ n → n < 100 → length (decimal n) ≡ 2
length_two n high low = ap length (decimal_two n high low)

decimal_pair : (n : ℕ) → 100 ≤ n → n < 2 ^ 64 → decimal n ≡ decimal (n / 100) ++ pair (n % 100)
decimal_pair n high small = grind (arith, decimal_step, append_assoc)

pub length_pair : (n : ℕ) → 100 ≤ n → n < 2 ^ 64 → length (decimal n) ≡ length (decimal (n / 100)) + 2
length_pair n high small = ap length (decimal_pair n high small) ∙ length-append _ _

pub append_pair : (before : List ℕ) (n : ℕ) → 100 ≤ n → n < 2 ^ 64 → before ++ decimal n ≡ before ++ decimal (n / 100) ++ pair (n % 100)
append_pair before n high small = ap (λ t. before ++ t) (decimal_pair n high small) ∙ sym (append_assoc before (decimal (n / 100)) (pair (n % 100)))

pub length_four : (n : ℕ) → 10000 ≤ n → n < 2 ^ 64 → length (decimal n) ≡ length (decimal (n / 10000)) + 4
length_four n high small = grind (arith, length_pair)

pub append_four : (before : List ℕ) (n : ℕ) → 10000 ≤ n → n < 2 ^ 64 → before ++ decimal n ≡ before ++ decimal (n / 10000) ++ pair (n % 10000 / 100) ++ pair (n % 100)
append_four before n high small = grind (arith, append_pair)

pub length_most : (n : ℕ) → n < 2 ^ 64 → length (decimal n) ≤ 20
length_most n small = length-decimal-le 20 n (omega arith) (omega arith) small
