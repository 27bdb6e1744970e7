-- Levels of places, and where levels begin.
use Rattle.std.proofs.{Common.{◌≡◌, ℕ, ◌<◌, ◌≤◌, List, [], ◌∷◌, length, get_or, cond, leb, ap, ⊎_elim, arith, Contains}, lemmas.{Bool.{le-leb, lt-leb, cases_lt}, List.Sums.{sum_by-cons, sum_by-le-sum_by, get_or-le-sum_by}}}
use Rattle.trail_core.specs.Assigned.{AreLimits, level_at}
use Rattle.conflict_analysis.proofs.Members.{cons_cases}

one : (m k : ℕ) → m ≤ k → cond {A = ℕ} (leb m k) 1 0 ≡ 1
one m k w = ap (λ b. cond {A = ℕ} b 1 0) (le-leb m k w)

none : (m k : ℕ) → k < m → cond {A = ℕ} (leb m k) 1 0 ≡ 0
none m k w = ap (λ b. cond {A = ℕ} b 1 0) (lt-leb m k w)

-- a higher place counts no less
grows : (m p k : ℕ) → p ≤ k → cond {A = ℕ} (leb m p) 1 0 ≤ cond {A = ℕ} (leb m k) 1 0
grows m p k w = grind (arith, ⊎_elim, none, one, cases_lt)

pub level_grows : (limits : List ℕ) (p k : ℕ) → p ≤ k → level_at limits p ≤ level_at limits k
level_grows limits p k w = sum_by-le-sum_by (λ n. cond {A = ℕ} (leb n p) 1 0) (λ n. cond {A = ℕ} (leb n k) 1 0) limits (λ n. grows n p k w)

-- a place below the first of a level has a lower level
pub level_below : (limits : List ℕ) (p k : ℕ) → p < k → Contains limits k → level_at limits p < level_at limits k
level_below [] p k w c = absurd (omega (arith, c.1))
level_below (m ∷ limits) p k w c =
    let x = sum_by-cons (λ n. cond {A = ℕ} (leb n p) 1 0) m limits in
    let y = sum_by-cons (λ n. cond {A = ℕ} (leb n k) 1 0) m limits in
    ⊎_elim
    (λ e. omega (arith, none m p (omega (arith, e, w)), one m k (omega (arith, e)), level_grows limits p k (omega (arith, w)), x, y))
    (λ d. omega (arith, grows m p k (omega (arith, w)), level_below limits p k w d, x, y))
    (cons_cases m limits k c)

-- where a level begins it is not level 0
pub some_level : (limits : List ℕ) (k : ℕ) → Contains limits k → level_at limits k ≡ 0 → ⊥
some_level limits k c z = grind (arith, get_or-le-sum_by, one)

-- a level begins no higher than one after it
pub limits_rise : (limits : List ℕ) (len i j : ℕ) → AreLimits limits len → i ≤ j → j < length limits → get_or limits i 0 ≤ get_or limits j 0
limits_rise limits len i j a le w = grind (arith, cases_lt i j)
