-- What the values of literals keep, as literals become true and are taken back.
use Rattle.std.proofs.Common.{◌≡◌, ◌≢◌, ◌==◌, ◌↔◌, ℕ, ◌+◌, ◌<◌, ◌≤◌, List, [], ◌∷◌, ◌++◌, length, get_or, set, cond, eqb, count_by, refl, sym, ap, ◌∙◌, subst, inl, inr, ⊎_elim, arith, ◌⊎◌, Contains}
use Rattle.std.proofs.lemmas.{Bool.cases_eq, List.{Sums.{sum_by-set, get_or-le-sum_by}, Elements.{Contains-push, Contains-push_cases, Contains-append_left}}}
use Rattle.std.proofs.lemmas.List.{get_or-set_same, get_or-set_other, get_or_default, get_or_append_left, get_or_push, length_push, length-set}
use Rattle.cnf_formula.{specs.{Literals.{LitValue, negation, code_of}}, proofs.Codes.code_within}
use Rattle.trail_core.{specs.{Assigned.{IsOpen}, Trails.IsAssigned}, proofs.Keeping.negated_twice}
use Rattle.list_laws.proofs.Places.{by_place_push}

-- ---- the numbers of literals

pub code_turned : (l : LitValue) → code_of (negation l) ≢ code_of l
code_turned l = grind arith

codes_apart : (l m : LitValue) → l.var ≢ m.var → code_of l ≢ code_of m
codes_apart l m d = grind arith

-- two literals of one variable are one, or each the negation of the other
same_var : (l m : LitValue) → l.var ≡ m.var → (l ≡ m) ⊎ (l ≡ negation m)
same_var l m e = grind arith

-- ---- a literal and its negation are given values

abbrev pub valued : List ℕ → LitValue → ℕ → ℕ → List ℕ
valued values x a b = set (set values (code_of x) a) (code_of (negation x)) b

pub valued_length : (values : List ℕ) (x : LitValue) (a b : ℕ) → length (valued values x a b) ≡ length values
valued_length values x a b = length-set (set values (code_of x) a) (code_of (negation x)) b ∙ length-set values (code_of x) a

valued_here : (values : List ℕ) (x : LitValue) (a b : ℕ) → code_of x < length values → get_or (valued values x a b) (code_of x) 0 ≡ a
valued_here values x a b w =
    get_or-set_other (set values (code_of x) a) (code_of (negation x)) (code_of x) b 0 (λ e. code_turned x (sym e)) ∙ get_or-set_same values (code_of x) a 0 w

valued_there : (values : List ℕ) (x : LitValue) (a b : ℕ) → code_of (negation x) < length values → get_or (valued values x a b) (code_of (negation x)) 0 ≡ b
valued_there values x a b w = get_or-set_same (set values (code_of x) a) (code_of (negation x)) b 0 (omega (arith, w, length-set values (code_of x) a))

valued_else : (values : List ℕ) (x l : LitValue) (a b : ℕ) → l.var ≢ x.var → get_or (valued values x a b) (code_of l) 0 ≡ get_or values (code_of l) 0
valued_else values x l a b d = grind (arith, get_or-set_other, codes_apart)

-- how many values are 0, where two of them change
abbrev pub zero_hit : ℕ → ℕ
zero_hit n = cond {A = ℕ} (eqb n 0) 1 0

valued_zeros : (values : List ℕ) (x : LitValue) (a b : ℕ) → code_of x < length values → code_of (negation x) < length values
    → count_by (λ n. n == 0) (valued values x a b) + (zero_hit (get_or values (code_of x) 0) + zero_hit (get_or values (code_of (negation x)) 0)) ≡ count_by (λ n. n == 0) values + (zero_hit a + zero_hit b)
valued_zeros values x a b w v = grind (arith, sum_by-set, length-set, get_or-set_other, code_turned)

-- ---- what a value says

value_by_true : (vars : ℕ) (values : List ℕ) (lits : List LitValue) (l : LitValue) → IsAssigned vars values lits → Contains lits l → get_or values (code_of l) 0 ≡ 1
value_by_true vars values lits l a c = subst (λ x. get_or values (code_of x) 0 ≡ 1) c.2 (a.known c.0 l c.1)

value_by_false : (vars : ℕ) (values : List ℕ) (lits : List LitValue) (l : LitValue) → IsAssigned vars values lits → Contains lits (negation l) → get_or values (code_of l) 0 ≡ 2
value_by_false vars values lits l a c = subst (λ x. get_or values (code_of x) 0 ≡ 2) (ap negation c.2 ∙ negated_twice l) (a.opposed c.0 (negation l) c.1)

true_by_value : (vars : ℕ) (values : List ℕ) (lits : List LitValue) (l : LitValue) → IsAssigned vars values lits → 0 < l.var → l.var ≤ vars → get_or values (code_of l) 0 ≡ 1 → Contains lits l
true_by_value vars values lits l a some within e = grind (arith, value_by_false vars values lits l a, a.stands l some within)

false_by_value : (vars : ℕ) (values : List ℕ) (lits : List LitValue) (l : LitValue) → IsAssigned vars values lits → 0 < l.var → l.var ≤ vars → get_or values (code_of l) 0 ≡ 2 → Contains lits (negation l)
false_by_value vars values lits l a some within e = grind (arith, value_by_true vars values lits l a, a.stands l some within)

open_by_value : (vars : ℕ) (values : List ℕ) (lits : List LitValue) (l : LitValue) → IsAssigned vars values lits → get_or values (code_of l) 0 ≡ 0 → IsOpen lits l
open_by_value vars values lits l a e = grind (arith, value_by_true, value_by_false)

value_by_open : (vars : ℕ) (values : List ℕ) (lits : List LitValue) (l : LitValue) → IsAssigned vars values lits → 0 < l.var → l.var ≤ vars → IsOpen lits l → get_or values (code_of l) 0 ≡ 0
value_by_open vars values lits l a some within o = ⊎_elim (λ e. e) (λ n. absurd (⊎_elim o.not_true o.not_false (a.stands l some within n))) (cases_eq (get_or values (code_of l) 0) 0)

pub value_is : (vars : ℕ) (values : List ℕ) (lits : List LitValue) (l : LitValue) (n : ℕ) → IsAssigned vars values lits → 0 < l.var → l.var ≤ vars → n ≡ get_or values (code_of l) 0
    → (n ≡ 0 → IsOpen lits l) × ((n ≡ 1) ↔ Contains lits l) × ((n ≡ 2) ↔ Contains lits (negation l)) × (n ≢ 0 → Contains lits l ⊎ Contains lits (negation l))
value_is vars values lits l n a some within e = (
  λ z. open_by_value vars values lits l a (sym e ∙ z),
  (λ o. true_by_value vars values lits l a some within (sym e ∙ o), λ h. e ∙ value_by_true vars values lits l a h),
  (λ o. false_by_value vars values lits l a some within (sym e ∙ o), λ h. e ∙ value_by_false vars values lits l a h),
  λ d. a.stands l some within (λ z. d (e ∙ z)),
)

pub consistent : (vars : ℕ) (values : List ℕ) (lits : List LitValue) → IsAssigned vars values lits → (l : LitValue) → Contains lits l → Contains lits (negation l) → ⊥
consistent vars values lits a l p q = absurd (omega (arith, value_by_true vars values lits l a p, value_by_false vars values lits l a q))

-- ---- a literal becomes true

turned_open : (lits : List LitValue) (x : LitValue) → IsOpen lits x → IsOpen lits (negation x)
turned_open lits x o = grind (arith, negated_twice)

pub code_of_within : (vars : ℕ) (values : List ℕ) (lits : List LitValue) (x : LitValue) → IsAssigned vars values lits → 0 < x.var → x.var ≤ vars → (code_of x < length values) × (code_of (negation x) < length values)
code_of_within vars values lits x a some within = grind (arith, code_within)

-- an open literal's variable is new on the trail
pub var_new : (lits : List LitValue) (x : LitValue) → IsOpen lits x → (k : ℕ) (d : LitValue) → k < length lits → (get_or lits k d).var ≢ x.var
var_new lits x o k d w e =
    ⊎_elim (λ s. o.not_true (k, w, is k w x d s)) (λ s. o.not_false (k, w, is k w (negation x) d s)) (same_var (get_or lits k d) x e)
  where
    is : (k : ℕ) → k < length lits → (y d : LitValue) → get_or lits k d ≡ y → get_or lits k y ≡ y
    is k w y d s = get_or_default lits k y d w ∙ s

pub room_for : (vars : ℕ) (values : List ℕ) (lits : List LitValue) (x : LitValue) → IsAssigned vars values lits → 0 < x.var → x.var ≤ vars → IsOpen lits x → length lits < vars
room_for vars values lits x a some within o =
    let in' = (code_of_within vars values lits x a some within).0 in
    grind (arith, get_or-le-sum_by (λ n. cond (eqb n 0) 1 0) values (code_of x) 0 in', value_by_open vars values lits x a some within o, a.zeros)

pub assigned_push : (vars : ℕ) (values : List ℕ) (lits : List LitValue) (x : LitValue) → IsAssigned vars values lits → 0 < x.var → x.var ≤ vars → IsOpen lits x → IsAssigned vars (valued values x 1 2) (lits ++ x ∷ [])
assigned_push vars values lits x a some within o =
    let in' = code_of_within vars values lits x a some within in
    let new = var_new lits x o in
    record {
      values_len = valued_length values x 1 2 ∙ a.values_len;
      some = λ k d. by_place_push (λ n l. 0 < l.var) lits x d (λ n. a.some n d) some k;
      within = λ k d. by_place_push (λ n l. l.var ≤ vars) lits x d (λ n. a.within n d) within k;
      known = λ k d. by_place_push (λ n l. get_or (valued values x 1 2) (code_of l) 0 ≡ 1) lits x d
          (λ n w. valued_else values x (get_or lits n d) 1 2 (new n d w) ∙ a.known n d w) (valued_here values x 1 2 in'.0) k;
      opposed = λ k d. by_place_push (λ n l. get_or (valued values x 1 2) (code_of (negation l)) 0 ≡ 2) lits x d
          (λ n w. valued_else values x (negation (get_or lits n d)) 1 2 (new n d w) ∙ a.opposed n d w) (valued_there values x 1 2 in'.1) k;
      stands = λ l p q n. ⊎_elim
          (λ e. ⊎_elim
          (λ s. inl (subst (Contains (lits ++ x ∷ [])) (sym s) (Contains-push lits x)))
          (λ s. inr (subst (Contains (lits ++ x ∷ [])) (sym (ap negation s ∙ negated_twice x)) (Contains-push lits x)))
          (same_var l x e))
          (λ d. ⊎_elim
          (λ c. inl (Contains-append_left lits (x ∷ []) l c))
          (λ c. inr (Contains-append_left lits (x ∷ []) (negation l) c))
          (a.stands l p q (λ z. n (valued_else values x l 1 2 d ∙ z))))
          (cases_eq l.var x.var);
      apart = λ i j d e lt w. by_place_push (λ m l. (n : ℕ) → n < m → (get_or (lits ++ x ∷ []) n d).var ≢ l.var) lits x e
          (λ m u n s. subst (λ l. l.var ≢ (get_or lits m e).var) (sym (get_or_append_left lits (x ∷ []) d n (omega (arith, s, u)))) (a.apart n m d e s u))
          (λ n s. subst (λ l. l.var ≢ x.var) (sym (get_or_append_left lits (x ∷ []) d n s)) (new n d s)) j w i lt;
      zeros = grind (arith, valued_zeros values x 1 2 in'.0 in'.1, value_by_open vars values lits x a some within o, value_by_open vars values lits (negation x) a some within (turned_open lits x o), a.zeros, length_push lits x);
    }

-- ---- literals are taken back

pub last_within : (vars : ℕ) (values : List ℕ) (lits : List LitValue) (x : LitValue) → IsAssigned vars values (lits ++ x ∷ []) → (code_of x < length values) × (code_of (negation x) < length values)
last_within vars values lits x a = grind (arith, length_push lits x, get_or_push lits x x (length lits) refl, code_of_within)

pub assigned_pop : (vars : ℕ) (values : List ℕ) (lits : List LitValue) (x : LitValue) → IsAssigned vars values (lits ++ x ∷ []) → IsAssigned vars (valued values x 0 0) lits
assigned_pop vars values lits x a =
    let n = length_push lits x in
    let last : length lits < length (lits ++ x ∷ []) = omega (arith, n) in
    let here : (d : LitValue) → get_or (lits ++ x ∷ []) (length lits) d ≡ x = λ d. get_or_push lits x d (length lits) refl in
    let in' = last_within vars values lits x a in
    let new : (k : ℕ) (d : LitValue) → k < length lits → (get_or lits k d).var ≢ x.var = λ k d w. grind (arith, a.apart k (length lits) d d w, get_or_append_left, get_or_push, length_push) in
    let old : (P : LitValue → Type 0) → ((k : ℕ) (d : LitValue) → k < length (lits ++ x ∷ []) → P (get_or (lits ++ x ∷ []) k d)) → (k : ℕ) (d : LitValue) → k < length lits → P (get_or lits k d) =
    λ P h k d w. subst P (get_or_append_left lits (x ∷ []) d k w) (h k d (omega (arith, w, n))) in
    let was_true : get_or values (code_of x) 0 ≡ 1 = subst (λ l. get_or values (code_of l) 0 ≡ 1) (here x) (a.known (length lits) x last) in
    let was_false : get_or values (code_of (negation x)) 0 ≡ 2 = subst (λ l. get_or values (code_of (negation l)) 0 ≡ 2) (here x) (a.opposed (length lits) x last) in
    record {
      values_len = valued_length values x 0 0 ∙ a.values_len;
      some = old (λ l. 0 < l.var) a.some;
      within = old (λ l. l.var ≤ vars) a.within;
      known = λ k d w. valued_else values x (get_or lits k d) 0 0 (new k d w) ∙ old (λ l. get_or values (code_of l) 0 ≡ 1) a.known k d w;
      opposed = λ k d w. valued_else values x (negation (get_or lits k d)) 0 0 (new k d w) ∙ old (λ l. get_or values (code_of (negation l)) 0 ≡ 2) a.opposed k d w;
      stands = λ l p q z. ⊎_elim
          (λ e. absurd (z (⊎_elim
          (λ s. subst (λ y. get_or (valued values x 0 0) (code_of y) 0 ≡ 0) (sym s) (valued_here values x 0 0 in'.0))
          (λ s. subst (λ y. get_or (valued values x 0 0) (code_of y) 0 ≡ 0) (sym s) (valued_there values x 0 0 in'.1))
          (same_var l x e))))
          (λ d. ⊎_elim (λ c. inl (stays l d c)) (λ c. inr (stays (negation l) d c)) (a.stands l p q (λ y. z (valued_else values x l 0 0 d ∙ y))))
          (cases_eq l.var x.var);
      apart = λ i j d e lt w.
          subst (λ l. l.var ≢ (get_or lits j e).var) (get_or_append_left lits (x ∷ []) d i (omega (arith, lt, w)))
          (subst (λ l. (get_or (lits ++ x ∷ []) i d).var ≢ l.var) (get_or_append_left lits (x ∷ []) e j w) (a.apart i j d e lt (omega (arith, w, n))));
      zeros = grind (arith, valued_zeros values x 0 0 in'.0 in'.1, was_true, was_false, a.zeros, n);
    }
  where
    stays : (l : LitValue) → l.var ≢ x.var → Contains (lits ++ x ∷ []) l → Contains lits l
    stays l d c = ⊎_elim (λ h. h) (λ h. absurd (d (ap (λ y. y.var) (sym h)))) (Contains-push_cases lits x l c)
