-- A set of nodes as bits.
use Rattle.std.proofs.Common.{◌≡◌, ℕ, zero, suc, ◌+◌, ◌-◌, ◌*◌, ◌/◌, ◌%◌, ◌^◌, ◌<◌, ◌≤◌, Bool, true, false, cond, ◌&&◌, [], ◌∷◌, ◌++◌, map-id, ap, sym, ◌∙◌, ⊎_elim, arith, ◌==◌, nat_lt}
use Rattle.std.proofs.{Math.Nat.{add-mul-div_left, add-mul-mod_self_left, div-eq_of_lt, pow-le-pow_right}, lemmas.{Bool.{cases_eq, cases_lt, cond_both, lt-ltb, le-ltb}, Nat.{pow-add, pow_pos}, List.FromFn.map-range_with_len_more}}
use Rattle.std.{proofs.lemmas.List.Sums.sum_by_push, specs.List.range_with_len}
use Rattle.node_cuts.specs.Sides.{NodeSet, has_bit, mask_of}

pub range_more : (a n j : ℕ) → a + n ≡ j → range_with_len a (n + 1) ≡ range_with_len a n ++ j ∷ []
range_more a n j at =
    sym (map-id (range_with_len a (n + 1))) ∙ map-range_with_len_more (λ x. x) a n j at ∙ ap (λ xs. xs ++ j ∷ []) (map-id (range_with_len a n))

pub bit_more : (n : ℕ) → 2 ^ (n + 1) ≡ 2 ^ n * 2
bit_more n = pow-add 2 n 1

-- a node more
pub mask_more : (u : NodeSet) (n : ℕ) → mask_of (n + 1) u ≡ mask_of n u + cond (u n) (2 ^ n) 0
mask_more u n = grind (arith, range_more 0 n n, sum_by_push)

pub mask_below : (u : NodeSet) (n : ℕ) → mask_of n u < 2 ^ n
mask_below u zero = omega arith
mask_below u (suc n) = grind (arith, mask_more u n, bit_more n, cond_both (u n) (2 ^ n) 0, mask_below u n)

pub small_bit : (n : ℕ) → n ≤ 16 → 2 ^ n ≤ 65536
small_bit n low = let two : 0 < 2 = omega arith in pow-le-pow_right two low

pub mask_yes : (u : NodeSet) (n : ℕ) → u n ≡ true → mask_of (n + 1) u ≡ mask_of n u + 2 ^ n
mask_yes u n is = mask_more u n ∙ ap (λ b. mask_of n u + cond b (2 ^ n) 0) is

pub mask_no : (u : NodeSet) (n : ℕ) → u n ≡ false → mask_of (n + 1) u ≡ mask_of n u
mask_no u n is = omega (arith, mask_more u n ∙ ap (λ b. mask_of n u + cond b (2 ^ n) 0) is)

-- ---- the bits

bit_below : (n m k : ℕ) → n < k → (m + 2 ^ k) / 2 ^ n % 2 ≡ m / 2 ^ n % 2
bit_below n m k below =
    let d : ℕ = k - (n + 1) in
    let exponent : k ≡ n + (1 + d) = omega (arith, below) in
    let split : 2 ^ k ≡ 2 ^ n * (2 * 2 ^ d) = ap (λ e. 2 ^ e) exponent ∙ pow-add 2 n (1 + d) ∙ ap (λ v. 2 ^ n * v) (pow-add 2 1 d) in
    ap (λ v. (m + v) / 2 ^ n % 2) split ∙ ap (λ v. v % 2) (add-mul-div_left m (2 * 2 ^ d) (pow_pos n)) ∙ add-mul-mod_self_left (m / 2 ^ n) 2 (2 ^ d)

bit_here : (m k : ℕ) → m < 2 ^ k → (m + 2 ^ k) / 2 ^ k % 2 ≡ 1
bit_here m k small = grind (arith, pow_pos)

pub bit_past : (n m : ℕ) → m < 2 ^ n → m / 2 ^ n % 2 ≡ 0
bit_past n m small = ap (λ v. v % 2) (div-eq_of_lt small)

bit_inside : (u : NodeSet) (nodes n : ℕ) → n < nodes → mask_of nodes u / 2 ^ n % 2 ≡ cond (u n) 1 0
bit_inside u zero n inside = absurd (omega (arith, inside))
bit_inside u (suc k) n inside = grind (arith, mask_more u k, mask_below u k, cases_eq n k, bit_here, bit_past k, bit_below n, bit_inside u k n)

one_where : (b : Bool) → (cond {A = ℕ} b 1 0 == 1) ≡ b
one_where b = grind arith

-- a bit is set exactly where it stands for a member
pub bit_is_member : (u : NodeSet) (nodes n : ℕ) → has_bit (mask_of nodes u) n ≡ (nat_lt n nodes && u n)
bit_is_member u nodes n =
    ⊎_elim
    (λ (inside : n < nodes). ap (λ v. v == 1) (bit_inside u nodes n inside) ∙ one_where (u n) ∙ ap (λ b. b && u n) (sym (lt-ltb n nodes inside)))
    (λ (past : nodes ≤ n).
    let two : 0 < 2 = omega arith in
    let low : 2 ^ nodes ≤ 2 ^ n = pow-le-pow_right two past in
    ap (λ v. v == 1) (bit_past n (mask_of nodes u) (omega (arith, low, mask_below u nodes))) ∙ ap (λ b. b && u n) (sym (le-ltb n nodes past)))
    (cases_lt n nodes)
