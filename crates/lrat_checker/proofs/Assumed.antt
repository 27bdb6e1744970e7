-- Literals that are assumed false.
use Rattle.std.{proofs.{Common.{◌≡◌, ℕ, suc, Bool, true, false, List, [], ◌∷◌, drop, eqb, arith, refl, sym, ap, ◌∙◌, ◌⊎◌, ◌==◌}, lemmas.Bool.{false≢true, or_right, or_from, eq-eqb, Decides.nat_tests}}, specs.List.list_any}
use Rattle.cnf_formula.{specs.Literals.{LitValue, same_literal, has_literal, negation, code_of}, proofs.Clauses.same_is}
use Rattle.proof_rules.specs.Judging.{has_variable_twice}

abbrev pub has_variable : List LitValue → LitValue → Bool
has_variable ls l = list_any (λ other. other.var == l.var) ls

by_literal : (l x : LitValue) → same_literal l x ≡ true → (x.var == l.var) ≡ true
by_literal l x s = eq-eqb x.var l.var (ap (λ y. y.var) (sym (same_is l x s)))

pub some_literal : (ls : List LitValue) (l : LitValue) → has_literal ls l ≡ true → has_variable ls l ≡ true
some_literal [] l h = absurd (false≢true h)
some_literal (x ∷ ls) l h = grind (arith, some_literal ls l, by_literal l x)

some_negation : (ls : List LitValue) (l : LitValue) → has_literal ls (negation l) ≡ true → has_variable ls l ≡ true
some_negation [] l h = absurd (false≢true h)
some_negation (x ∷ ls) l h = grind (arith, some_negation ls l, by_literal (negation l) x)

one_of : (l x : LitValue) → (x.var == l.var) ≡ true → (same_literal l x ≡ true) ⊎ (same_literal (negation l) x ≡ true)
one_of l x e = grind (arith, nat_tests)

pub no_variable : (ls : List LitValue) (l : LitValue) → has_literal ls l ≡ false → has_literal ls (negation l) ≡ false → has_variable ls l ≡ false
no_variable [] l f g = refl
no_variable (x ∷ ls) l f g = grind (arith, no_variable ls l, one_of l x)

twice-drop : (k : ℕ) (ls : List LitValue) → has_variable_twice (drop k ls) ≡ true → has_variable_twice ls ≡ true
twice-drop (suc k) (x ∷ ls) h = or_right (has_variable ls x) (has_variable_twice ls) (twice-drop k ls h)
twice-drop k ls h = h

-- a literal whose variable stands behind it
pub twice_here : (ls : List LitValue) (k : ℕ) (l : LitValue) (rest : List LitValue) → drop k ls ≡ l ∷ rest → (has_literal rest l ≡ true) ⊎ (has_literal rest (negation l) ≡ true) → has_variable_twice ls ≡ true
twice_here ls k l rest e h = grind (arith, twice-drop k ls, some_literal rest l, some_negation rest l)

pub once_here : (ls : List LitValue) (k : ℕ) (l : LitValue) (rest : List LitValue) → drop k ls ≡ l ∷ rest → has_literal rest l ≡ false → has_literal rest (negation l) ≡ false → has_variable_twice rest ≡ false → has_variable_twice (drop k ls) ≡ false
once_here ls k l rest e f g t = ap has_variable_twice e ∙ or_from (has_variable rest l) (has_variable_twice rest) (no_variable rest l f g) t

-- ---- the other literals of a clause

pub differs : (a b : LitValue) → eqb (code_of a) (code_of b) ≡ false → same_literal b a ≡ false
differs a b e = grind (arith, nat_tests, same_is b a)
