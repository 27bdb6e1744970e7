-- Literals and clauses about the first variables, in an assignment of more.
use Rattle.std.proofs.{Common.{◌≡◌, ℕ, ◌-◌, ◌≤◌, Bool, false, cond, List, [], ◌∷◌, ◌++◌, length, get_or, refl, ap, arith, All}, lemmas.List.{get_or_append_left, Elements.{All-head, All-tail}, Sums.sum_by-cons}}
use Rattle.cnf_formula.specs.{Literals.{LitValue, same_sign, is_true, clause_holds, all_hold}, Formulas.{IsAbout, IsClause}}
use Rattle.cardinality.specs.Counting.{true_inputs}

pub old_is_same : (values more : List Bool) (n : ℕ) (y : LitValue) → n ≤ length values → IsAbout n y → is_true (values ++ more) y ≡ is_true values y
old_is_same values more n y le a = ap (same_sign y.positive) (get_or_append_left values more false (y.var - 1) (omega (arith, a.some, a.within)))

pub about_more : (v w : ℕ) (l : LitValue) → v ≤ w → IsAbout v l → IsAbout w l
about_more v w l le a = record { some = a.some; within = omega (arith, le, a.within) }

pub clause_more : (v w : ℕ) (c : List LitValue) → v ≤ w → IsClause v c → IsClause w c
clause_more v w c le a = λ k d h. about_more v w (get_or c k d) le (a k d h)

pub clauses_more : (v w : ℕ) (cs : List (List LitValue)) → v ≤ w → All (IsClause v) cs → All (IsClause w) cs
clauses_more v w cs le a = λ k d h. clause_more v w (get_or cs k d) le (a k d h)

pub clause_same : (values more : List Bool) (n : ℕ) (c : List LitValue) → n ≤ length values → IsClause n c → clause_holds (values ++ more) c ≡ clause_holds values c
clause_same values more n [] le a = refl
clause_same values more n (l ∷ c) le a = grind (arith, old_is_same values more n l le (All-head (IsAbout n) l c a), clause_same values more n c le (All-tail (IsAbout n) l c a))

pub clauses_same : (values more : List Bool) (n : ℕ) (cs : List (List LitValue)) → n ≤ length values → All (IsClause n) cs → all_hold (values ++ more) cs ≡ all_hold values cs
clauses_same values more n [] le a = refl
clauses_same values more n (c ∷ cs) le a = grind (arith, clause_same values more n c le (All-head (IsClause n) c cs a), clauses_same values more n cs le (All-tail (IsClause n) c cs a))

pub count_same : (values more : List Bool) (n : ℕ) (ys : List LitValue) → n ≤ length values → IsClause n ys → true_inputs (values ++ more) ys ≡ true_inputs values ys
count_same values more n [] le a = refl
count_same values more n (y ∷ ys) le a =
    let counts : List Bool → LitValue → ℕ = λ vs l. cond (is_true vs l) 1 0 in
    grind (arith, sum_by-cons (counts (values ++ more)) y ys, sum_by-cons (counts values) y ys, old_is_same values more n y le (All-head (IsAbout n) y ys a), count_same values more n ys le (All-tail (IsAbout n) y ys a))
