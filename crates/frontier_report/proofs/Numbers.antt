-- The numbers of a line, read one by one.
use Rattle.std.proofs.Common.{◌≡◌, ℕ, List, [], ◌∷◌, ◌++◌, Result, Ok, Err, refl, append_assoc}
use Rattle.text_lines.specs.Check.{◌>>=◌, need}
use Rattle.report_form.specs.{declared.fault.ReportCode.{ReportCode, TheVariants.BadLine}, Fields.small_number, Points.numbers_from}

-- numbers behind those that were read before
abbrev pub behind_numbers : List ℕ → Result (List ℕ) ReportCode → Result (List ℕ) ReportCode
behind_numbers before (Ok ns) = Ok (before ++ ns)
behind_numbers before (Err code) = Err code

behind_one : (before : List ℕ) (n : ℕ) (r : Result (List ℕ) ReportCode) → behind_numbers (before ++ n ∷ []) r ≡ behind_numbers before (r >>= (λ ns. Ok (n ∷ ns)))
behind_one before n (Ok ns) = rw append_assoc refl
behind_one before n (Err code) = refl

abbrev one_read : ℕ → Result ℕ ReportCode
one_read n = Ok n

-- behind a number go on those that may still come
pub number_read : (before now : List ℕ) (words rest : List (List ℕ)) (w : List ℕ) (n : ℕ) → words ≡ w ∷ rest → need (small_number w) BadLine ≡ one_read n → now ≡ before ++ n ∷ []
    → behind_numbers now (numbers_from rest) ≡ behind_numbers before (numbers_from words)
number_read before now words rest w n front read all = rw (front, read, all, behind_one before n (numbers_from rest)) refl
