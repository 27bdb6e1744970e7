-- Names of nodes (this project's own).
use Rattle.std.specs.{Prelude.{◌≡◌, ◌≢◌, ◌==◌, ◌&&◌, ◌||◌, ℕ, ◌-◌, ◌<◌, ◌≤◌, Bool, true, if◌then◌else◌, List, ◌++◌, length, take, replicate, Option, Some, None, All, AllPairs, nat_lt, nat_le}, List.list_all}

-- a to z, 0 to 9 and _
abbrev pub is_name_byte : ℕ → Bool
is_name_byte b = (nat_le 97 b && nat_le b 122) || (nat_le 48 b && nat_le b 57) || b == 95

-- 1 to 16 of these bytes
abbrev pub is_name : List ℕ → Bool
is_name bytes = nat_lt 0 (length bytes) && nat_le (length bytes) 16 && list_all is_name_byte bytes

-- the name that these bytes are, if they are one
abbrev pub name_of : List ℕ → Option (List ℕ)
name_of bytes = if is_name bytes then Some bytes else None

-- 1 to 16 names, all different
pub record AreNames (names : List (List ℕ)) : Type 0 where
  pub some : 0 < length names
  pub few : length names ≤ 16
  pub each : All (λ n. is_name n ≡ true) names
  pub distinct : AllPairs (λ a b. a ≢ b) names

-- a name in 16 places, filled up with 0
abbrev pub padded : List ℕ → List ℕ
padded name = name ++ replicate (16 - length name) 0

-- the first n of the 16 places are a name, and the others are 0
pub record IsKept (all : List ℕ) (n : ℕ) : Type 0 where
  pub name : is_name (take n all) ≡ true
  pub len : length (take n all) ≡ n
  pub places : padded (take n all) ≡ all
