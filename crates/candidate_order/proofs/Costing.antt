-- Fractions of rounds and chunk counts, compared by cross products.
use Rattle.std.proofs.{Common.{◌≡◌, ℕ, zero, suc, ◌*◌, ◌<◌, ◌≤◌, ◌⊎◌, inl, inr, ⊎_elim, refl, arith}, lemmas.Bool.{cases_lt, cases_order}}
use Rattle.std.proofs.Math.Nat.{mul-le-mul_right, mul-lt-mul_of_pos_right, lt_of_mul-lt-mul_right, mul_right_comm, mul-pos}

-- the first fraction is at most the third
pub cost_upto : (r1 c1 r2 c2 r3 c3 : ℕ) → 0 < c2 → r1 * c2 ≤ r2 * c1 → r2 * c3 ≤ r3 * c2 → r1 * c3 ≤ r3 * c1
cost_upto r1 c1 r2 c2 r3 c3 some a b =
    ⊎_elim
    (λ (above : r3 * c1 < r1 * c3). absurd (omega (arith, mul-lt-mul_of_pos_right above some, mul-le-mul_right c3 a, mul-le-mul_right c1 b, mul_right_comm r1 c2 c3, mul_right_comm r2 c1 c3, mul_right_comm r3 c1 c2)))
    (λ (upto : r1 * c3 ≤ r3 * c1). upto)
    (cases_lt (r3 * c1) (r1 * c3))

-- it is below, where one of the two steps is strict
pub cost_below_left : (r1 c1 r2 c2 r3 c3 : ℕ) → 0 < c3 → r1 * c2 < r2 * c1 → r2 * c3 ≤ r3 * c2 → r1 * c3 < r3 * c1
cost_below_left r1 c1 r2 c2 r3 c3 some a b =
    lt_of_mul-lt-mul_right c2 (omega (arith, mul-lt-mul_of_pos_right a some, mul-le-mul_right c1 b, mul_right_comm r1 c2 c3, mul_right_comm r2 c1 c3, mul_right_comm r3 c1 c2))

pub cost_below_right : (r1 c1 r2 c2 r3 c3 : ℕ) → 0 < c1 → r1 * c2 ≤ r2 * c1 → r2 * c3 < r3 * c2 → r1 * c3 < r3 * c1
cost_below_right r1 c1 r2 c2 r3 c3 some a b =
    lt_of_mul-lt-mul_right c2 (omega (arith, mul-le-mul_right c3 a, mul-lt-mul_of_pos_right b some, mul_right_comm r1 c2 c3, mul_right_comm r2 c1 c3, mul_right_comm r3 c1 c2))

-- the first is not after the second: by cost, then by chunk count, then by rounds
abbrev pub UpTo : ℕ → ℕ → ℕ → ℕ → Type 0
UpTo r1 c1 r2 c2 = (r1 * c2 < r2 * c1) ⊎ ((r1 * c2 ≡ r2 * c1) × ((c1 < c2) ⊎ ((c1 ≡ c2) × (r1 ≤ r2))))

-- where no count is 0
upto_some : (r1 c1 r2 c2 r3 c3 : ℕ) → 0 < c1 → 0 < c2 → 0 < c3 → UpTo r1 c1 r2 c2 → UpTo r2 c2 r3 c3 → UpTo r1 c1 r3 c3
upto_some r1 c1 r2 c2 r3 c3 some1 some2 some3 (inl a) (inl b) =
    inl (cost_below_left r1 c1 r2 c2 r3 c3 some3 a (omega arith))
upto_some r1 c1 r2 c2 r3 c3 some1 some2 some3 (inl a) (inr b) =
    inl (cost_below_left r1 c1 r2 c2 r3 c3 some3 a (omega arith))
upto_some r1 c1 r2 c2 r3 c3 some1 some2 some3 (inr a) (inl b) =
    inl (cost_below_right r1 c1 r2 c2 r3 c3 some1 (omega arith) b)
upto_some r1 c1 r2 c2 r3 c3 some1 some2 some3 (inr a) (inr b) = grind (arith, cost_upto r1 c1 r2 c2 r3 c3 some2 (omega arith) (omega arith), cost_upto r3 c3 r2 c2 r1 c1 some2 (omega arith) (omega arith))

-- a product with 0 in it
factor_zero : (r c : ℕ) → 0 < c → r * c ≡ 0 → r ≡ 0
factor_zero zero c some e = refl
factor_zero (suc r) c some e = absurd (omega (arith, mul-pos {m = suc r} {n = c} (omega arith) some))

-- where the last count is 0
no_last : (r1 c1 r2 c2 r3 : ℕ) → UpTo r1 c1 r2 c2 → UpTo r2 c2 r3 0 → UpTo r1 c1 r3 0
no_last r1 zero r2 zero r3 a b = grind arith
no_last r1 zero r2 (suc c2) r3 a b = grind (arith, factor_zero)
no_last r1 (suc c1) zero zero r3 (inl a) b = absurd (omega arith)
no_last r1 (suc c1) (suc r2) zero r3 (inl a) b = grind (arith, mul-pos)
no_last r1 (suc c1) r2 zero r3 (inr a) b = grind arith
no_last r1 (suc c1) r2 (suc c2) zero a b = grind arith
no_last r1 (suc c1) r2 (suc c2) (suc r3) a b = inl (omega (arith, mul-pos {m = suc r3} {n = suc c1} (omega arith) (omega arith)))

no_first : (r1 r2 c2 r3 c3 : ℕ) → UpTo r1 0 r2 c2 → UpTo r2 c2 r3 (suc c3) → UpTo r1 0 r3 (suc c3)
no_first r1 r2 zero r3 c3 a b = grind (arith, factor_zero)
no_first r1 r2 (suc c2) r3 c3 a b = grind (arith, factor_zero)

no_middle : (r1 c1 r2 r3 c3 : ℕ) → UpTo r1 (suc c1) r2 0 → UpTo r2 0 r3 (suc c3) → UpTo r1 (suc c1) r3 (suc c3)
no_middle r1 c1 r2 r3 c3 a b = grind (arith, factor_zero)

pub upto_trans : (r1 c1 r2 c2 r3 c3 : ℕ) → UpTo r1 c1 r2 c2 → UpTo r2 c2 r3 c3 → UpTo r1 c1 r3 c3
upto_trans r1 c1 r2 c2 r3 zero a b = no_last r1 c1 r2 c2 r3 a b
upto_trans r1 zero r2 c2 r3 (suc c3) a b = no_first r1 r2 c2 r3 c3 a b
upto_trans r1 (suc c1) r2 zero r3 (suc c3) a b = no_middle r1 c1 r2 r3 c3 a b
upto_trans r1 (suc c1) r2 (suc c2) r3 (suc c3) a b =
    upto_some r1 (suc c1) r2 (suc c2) r3 (suc c3) (omega arith) (omega arith) (omega arith) a b

-- fractions of one count are the same where their rounds are
pub same_rounds : (r s c : ℕ) → 0 < c → r * c ≡ s * c → r ≡ s
same_rounds r s c some same = grind (arith, cases_order, mul-lt-mul_of_pos_right)
