-- Numbers of any size, by their digits.
use Rattle.std.{proofs.{Common.{◌≡◌, ℕ, ◌<◌, ◌^◌, Bool, true, false, List, None, Some, refl, arith, ◌==◌, ◌&&◌, nat_le, IsTrue, if◌then◌else◌}, lemmas.Bool.{leb-true, Decides.nat_tests}}, specs.{Option.is_some, Str.Parse.digits_value}}
use Rattle.text_lines.{specs.Number.number_up_to, proofs.Numbers.up_to_some}
use Rattle.report_form.{specs.Fields.is_number, proofs.Tokens.canonical}

-- a number that is spelled and not up to the greatest is not in range
pub none_in_range : (token : List ℕ) (least greatest : ℕ) → IsTrue (is_number token) → greatest < 2 ^ 64 → None ≡ number_up_to greatest token → None ≡ (if nat_le least (digits_value 10 token) && nat_le (digits_value 10 token) greatest then Some (digits_value 10 token) else None)
none_in_range token least greatest number fits none = by_test (nat_le least (digits_value 10 token)) (nat_le (digits_value 10 token) greatest) refl
  where
    by_test : (a b : Bool) → nat_le (digits_value 10 token) greatest ≡ b → None ≡ (if a && b then Some (digits_value 10 token) else None)
    by_test false b e = refl
    by_test true false e = refl
    by_test true true e =
        let most = leb-true (digits_value 10 token) greatest e in
        let found = up_to_some greatest (digits_value 10 token) token fits (canonical token number (omega (arith, most, fits))) most in
        absurd (cc)

-- a number from n to n is n
pub only_itself : (v n : ℕ) → is_some (if nat_le n v && nat_le v n then Some v else None) ≡ (v == n)
only_itself v n = grind (arith, nat_tests)
