-- Marks on literals, counted in a table.
use Rattle.std.proofs.{Common.{◌≡◌, ℕ, ◌+◌, ◌-◌, ◌≤◌, Bool, true, false, cond, List, [], ◌∷◌, ◌++◌, length, take, drop, get_or, set, refl, sym, ap, ◌∙◌, subst, arith, ◌||◌, nat_lt, All, reverse}, lemmas.Bool.{false≢true, Decides.nat_tests}}
use Rattle.std.proofs.lemmas.List.{Folds.list_any-append, Elements.{All-head, All-tail, All-push}}
use Rattle.std.proofs.lemmas.List.{length-set, get_or_append_left, get_or-set_same, get_or-set_other, length_push, reverse-append, length-reverse, take-append-drop, drop_at, length-drop, get_or_read}
use Rattle.cnf_formula.{specs.{Literals.{LitValue, same_literal, has_literal, code_of}, Formulas.IsAbout}, proofs.{Clauses.same_is, Codes.{same_code, code_within}}}
use Rattle.lrat_checker.specs.inner.Marking.{times, IsCounted}
use Rattle.proof_rules.proofs.Taking.{same_itself}

-- ---- how often a literal stands in a list

abbrev once : LitValue → LitValue → ℕ
once l x = cond (same_literal l x) 1 0

times-push : (l x : LitValue) (xs : List LitValue) → times l (xs ++ x ∷ []) ≡ times l xs + once l x
times-push l x [] = omega arith
times-push l x (y ∷ xs) = let e = times-push l x xs in omega (arith, e)

once_small : (l x : LitValue) → once l x ≤ 1
once_small l x = grind arith

pub times_few : (l : LitValue) (xs : List LitValue) → times l xs ≤ length xs
times_few l [] = omega arith
times_few l (x ∷ xs) = let a = times_few l xs in let b = once_small l x in omega (arith, a, b)

pub has_times : (l : LitValue) (xs : List LitValue) → has_literal xs l ≡ nat_lt 0 (times l xs)
has_times l [] = refl
has_times l (x ∷ xs) = grind (arith, nat_tests, has_times l xs)

turned : (a b c : Bool) → a ≡ c → (a || (b || false)) ≡ (b || c)
turned a b c e = grind arith

pub has-reverse : (l : LitValue) (xs : List LitValue) → has_literal (reverse xs) l ≡ has_literal xs l
has-reverse l [] = refl
has-reverse l (x ∷ xs) = ap (λ ys. has_literal ys l) (reverse-append (x ∷ []) xs) ∙ list_any-append (same_literal l) (reverse xs) (x ∷ []) ∙ turned (has_literal (reverse xs) l) (same_literal l x) (has_literal xs l) (has-reverse l xs)

-- ---- the table

apart : (l x : LitValue) → same_literal l x ≡ false → code_of l ≡ code_of x → ⊥
apart l x f e = false≢true (sym f ∙ subst (λ y. same_literal l y ≡ true) (same_code l x e) (same_itself l))

pub counted_more : (vars : ℕ) (counts : List ℕ) (marked : List LitValue) (x : LitValue) (n : ℕ) → IsCounted vars counts marked → IsAbout vars x → n ≡ get_or counts (code_of x) 0 → IsCounted vars (set counts (code_of x) (n + 1)) (marked ++ x ∷ [])
counted_more vars counts marked x n c a e =
    grind (arith, length-set counts (code_of x) (n + 1), All-push (IsAbout vars) marked x c.about a, times-push, get_or-set_same, get_or-set_other)

pub some_times : (marked : List LitValue) (x : LitValue) → times x (marked ++ x ∷ []) ≡ times x marked + 1
some_times marked x = rw (same_itself x) at (times-push x x marked)

pub about_last : (vars : ℕ) (ms : List LitValue) (x : LitValue) → All (IsAbout vars) (ms ++ x ∷ []) → IsAbout vars x
about_last vars [] x h = All-head (IsAbout vars) x [] h
about_last vars (m ∷ ms) x h = about_last vars ms x (All-tail (IsAbout vars) m (ms ++ x ∷ []) h)

pub counted_fewer : (vars : ℕ) (counts : List ℕ) (marked : List LitValue) (x : LitValue) (n : ℕ) → IsCounted vars counts (marked ++ x ∷ []) → n ≡ get_or counts (code_of x) 0 → IsCounted vars (set counts (code_of x) (n - 1)) marked
counted_fewer vars counts marked x n c e =
    grind (arith, length_push marked x, about_last vars marked x c.about, length-set counts (code_of x) (n - 1), same_is, apart, code_within vars x, times-push, get_or-set_same, get_or-set_other, get_or_append_left, length_push)

-- ---- marks are taken back

pub reverse-take : (k : ℕ) (xs : List LitValue) → k ≤ length xs → reverse (take k xs) ≡ drop (length xs - k) (reverse xs)
reverse-take k xs w =
    let parts : reverse xs ≡ reverse (drop k xs) ++ reverse (take k xs) = ap reverse (sym (take-append-drop k xs)) ∙ reverse-append (take k xs) (drop k xs) in
    sym (ap (drop (length xs - k)) parts ∙ drop_at (reverse (drop k xs)) (reverse (take k xs)) (length xs - k) (length-reverse (drop k xs) ∙ length-drop k xs))

-- ---- what is read

pub at_code : (vars : ℕ) (counts : List ℕ) (marked : List LitValue) (l : LitValue) (code n : ℕ) → IsCounted vars counts marked → IsAbout vars l → code ≡ code_of l → n ≡ get_or counts code n → n ≡ get_or counts (code_of l) 0
at_code vars counts marked l code n c a e h = grind (arith, get_or_read counts code n)

pub read_times : (vars : ℕ) (counts : List ℕ) (marked : List LitValue) (l : LitValue) (code n : ℕ) → IsCounted vars counts marked → IsAbout vars l → code ≡ code_of l → n ≡ get_or counts code n → n ≡ times l marked
read_times vars counts marked l code n c a e h = at_code vars counts marked l code n c a e h ∙ c.each l a
