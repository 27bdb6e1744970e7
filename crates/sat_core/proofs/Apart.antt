-- Two or three literals, of which no two are the same; a table of marks that is made longer.
use Rattle.std.proofs.{Common.{◌≡◌, ◌<◌, ◌≤◌, ℕ, List, length, get_or, sym, ap, ◌∙◌, ⊎_elim, arith, ◌≢◌, AllPairs}, lemmas.{Bool.{cases_eq, cases_lt}, List.{get_or_read, get_or_past}}}
use Rattle.std.proofs.{Common.{take, Contains}, lemmas.List.{get_or-take, length-take-le, get_or_default}}
use Rattle.cnf_formula.specs.Literals.{LitValue}

-- what stands at two places differs
apart_at : (lits : List LitValue) (i j m n : ℕ) (d x y : LitValue) → i ≡ m → j ≡ n → x ≡ get_or lits m d → y ≡ get_or lits n d → x ≢ y → get_or lits i d ≢ get_or lits j d
apart_at lits i j m n d x y p q ex ey differ = λ e. differ (ex ∙ ap (λ k. get_or lits k d) (sym p) ∙ e ∙ ap (λ k. get_or lits k d) q ∙ sym ey)

pub pair_apart : (lits : List LitValue) (x y : LitValue) → length lits ≡ 2 → x ≡ get_or lits 0 x → y ≡ get_or lits 1 y → x ≢ y → AllPairs (λ a b. a ≢ b) lits
pair_apart lits x y long ex ey differ = λ i j d h w.
    apart_at lits i j 0 1 d x y (omega arith) (omega arith) (get_or_read lits 0 x (omega arith) ex d) (get_or_read lits 1 y (omega arith) ey d) differ

pub three_apart : (lits : List LitValue) (x y z : LitValue) → length lits ≡ 3 → x ≡ get_or lits 0 x → y ≡ get_or lits 1 y → z ≡ get_or lits 2 z → x ≢ y → x ≢ z → y ≢ z → AllPairs (λ a b. a ≢ b) lits
three_apart lits x y z long ex ey ez xy xz yz = grind (arith, get_or_read, ⊎_elim, apart_at, cases_eq)

-- a table that is made longer by zeros, or cut, has no mark more
pub resized_below : (old new : List ℕ) (n mark : ℕ) → 0 < mark → length new ≡ n → ((k : ℕ) → k < n → k < length old → get_or new k 0 ≡ get_or old k 0) → ((k : ℕ) → length old ≤ k → k < n → get_or new k 0 ≡ 0) → ((k : ℕ) → get_or old k 0 < mark) → (k : ℕ) → get_or new k 0 < mark
resized_below old new n mark some len same zero below k = grind (arith, ⊎_elim, cases_lt, get_or_past)

-- what is not among the first so many differs from each of them
pub differs_from : (lits : List LitValue) (place i j : ℕ) (x d : LitValue) → (Contains (take place lits) x → ⊥) → x ≡ get_or lits place x → i < j → j ≡ place → place < length lits → get_or lits i d ≢ get_or lits j d
differs_from lits place i j x d none is w same le e =
    let at = ap (λ k. get_or lits k d) same ∙ sym (get_or_default lits place x d le) ∙ sym is in
    none (i, omega (arith, w, same, length-take-le place lits (omega (arith, le))), get_or-take place lits i x (omega (arith, w, same)) ∙ get_or_default lits i x d (omega (arith, w, same, le)) ∙ e ∙ at)
