-- Numbers in canonical decimal: digits without sign or leading zero, and `0` itself.
use Rattle.std.specs.{Prelude.{ℕ, ◌&&◌, if◌then◌else◌, List, Option, Some, None, nat_le, bytes_eq, decimal}, Str.Parse.digits_value}

-- the value of the digits, if that number is spelled so and is at most greatest
abbrev pub number_up_to : ℕ → List ℕ → Option ℕ
number_up_to greatest token = if bytes_eq token (decimal (digits_value 10 token)) && nat_le (digits_value 10 token) greatest then Some (digits_value 10 token) else None
