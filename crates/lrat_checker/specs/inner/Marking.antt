-- Literals that are marked as false, and the table behind them.
use Rattle.std.specs.Prelude.{◌≡◌, ℕ, ◌+◌, ◌*◌, List, [], ◌∷◌, ◌++◌, length, slice_index, All, if◌then◌else◌}
use Rattle.cnf_formula.specs.{Literals.{LitValue, same_literal, code_of}, Formulas.IsAbout}

-- literals of so many variables that are false, the latest first
pub record MarksValue : Type 0 where
  pub vars : ℕ
  pub falses : List LitValue

-- how often a literal stands in a list
abbrev pub times : LitValue → List LitValue → ℕ
times l [] = 0
times l (x ∷ xs) = (if same_literal l x then 1 else 0) + times l xs

-- the table has, by the code of each literal, how often it stands in the list
pub record IsCounted (vars : ℕ) (counts : List ℕ) (marked : List LitValue) : Type 0 where
  pub long : length counts ≡ 2 * vars + 2
  pub about : All (IsAbout vars) marked
  pub each : (l : LitValue) → IsAbout vars l → slice_index counts (code_of l) ≡ times l marked

-- nothing but literals in front was added
pub record Extends (base falses : List LitValue) : Type 0 where
  pub more : List LitValue
  pub is : falses ≡ more ++ base
