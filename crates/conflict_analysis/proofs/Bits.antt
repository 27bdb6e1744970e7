-- Bits of words, and of sets of places.
use Rattle.std.proofs.Common.{suc, ◌≡◌, ℕ, ◌+◌, ◌-◌, ◌*◌, ◌/◌, ◌%◌, ◌^◌, ◌<◌, ◌≤◌, List, length, get_or, set, sym, ap, ◌∙◌, ⊎_elim, arith, ◌≢◌, ◌⊎◌, ◌↔◌, IsBitSet}
use Rattle.std.proofs.{Math.Nat.{pow-succ', pow-le-pow_right}, lemmas.{Bool.{cases_lt, cases_eq}, List.{get_or-set_same, get_or-set_other, get_or_default}}}
use Rattle.std.proofs.lemmas.Nat.{pow_pos, pow-add, pow_below, pow_apart, and_comm, and_mask, and_assoc, and_le_l, and_or_self, and_or_apart, mod_low, shr_high, bit_set_by_shift, leading_top}
use lib.{Bits.{bit_and, bit_or}, Count.count_leading_zeros}
use Rattle.conflict_analysis.specs.PlaceSets.{HasPlace}

-- ---- words

-- a power of two by another
rest_small : (i k : ℕ) → k < i → 2 ^ k % 2 ^ i ≡ 2 ^ k
rest_small i k lt = let e : 2 ^ k ≡ 0 * 2 ^ i + 2 ^ k = omega arith in ap (λ x. x % 2 ^ i) e ∙ mod_low 0 i (2 ^ k) (pow_below k i lt)

rest_none : (i k : ℕ) → i ≤ k → 2 ^ k % 2 ^ i ≡ 0
rest_none i k le =
    let e : k - i + i ≡ k = omega (arith, le) in
    let s : 2 ^ k ≡ 2 ^ (k - i) * 2 ^ i = ap (λ x. 2 ^ x) (sym e) ∙ pow-add 2 (k - i) i in
    let z : 2 ^ k ≡ 2 ^ (k - i) * 2 ^ i + 0 = omega (arith, s) in
    ap (λ x. x % 2 ^ i) z ∙ mod_low (2 ^ (k - i)) i 0 (pow_pos i)

masked : (n i k : ℕ) → bit_and (bit_and n (2 ^ i - 1)) (2 ^ k) ≡ bit_and n (2 ^ k % 2 ^ i)
masked n i k = and_assoc (2 ^ k) n (2 ^ i - 1) ∙ ap (bit_and n) (and_comm (2 ^ i - 1) (2 ^ k) ∙ and_mask (2 ^ k) i)

and_none : (n : ℕ) → bit_and n 0 ≡ 0
and_none n = let c = and_comm n 0 in let l = and_le_l 0 n in omega (arith, c, l)

-- the bits below one
pub bits_lower : (n i k : ℕ) → IsBitSet (bit_and n (2 ^ i - 1)) k ↔ (IsBitSet n k × (k < i))
bits_lower n i k = (
  λ s. ⊎_elim
      (λ lt. (λ z. s (masked n i k ∙ ap (bit_and n) (rest_small i k lt) ∙ z), lt))
      (λ ge. absurd (s (masked n i k ∙ ap (bit_and n) (rest_none i k ge) ∙ and_none n)))
      (cases_lt k i),
  λ h. λ z. h.0 (sym (masked n i k ∙ ap (bit_and n) (rest_small i k h.1)) ∙ z),
)

-- one bit more
pub bits_more : (n i k : ℕ) → IsBitSet (bit_or n (2 ^ i)) k ↔ (IsBitSet n k ⊎ (k ≡ i))
bits_more n i k = grind (arith, cases_eq k i, and_or_apart, pow_apart, and_or_self, pow_pos)

-- the highest bit
pub highest_set : (n : ℕ) → n ≢ 0 → n < 2 ^ 64 → IsBitSet n (63 - count_leading_zeros 64 n)
highest_set n some fits =
    let t = leading_top 64 n (omega (arith, some)) fits in
    let two : 2 ^ suc t.0 ≡ 2 * 2 ^ t.0 = pow-succ' 2 t.0 in
    grind (arith, shr_high 1 t.0 (n - 2 ^ t.0) (omega (arith, t.3, two)), bit_set_by_shift n t.0)

pub highest_last : (n : ℕ) → n ≢ 0 → n < 2 ^ 64 → (k : ℕ) → 63 - count_leading_zeros 64 n < k → IsBitSet n k → ⊥
highest_last n some fits k gt s =
    let t = leading_top 64 n (omega (arith, some)) fits in
    let le : 2 ^ suc t.0 ≤ 2 ^ k = pow-le-pow_right (omega arith) (omega (arith, t.1, gt)) in
    grind (arith, shr_high 0 k n (omega (arith, t.3, le)), bit_set_by_shift n k)

-- ---- sets of places

-- a place more
has_more : (words : List ℕ) (place n : ℕ) → n ≡ get_or words (place / 64) 0 → place / 64 < length words → (k : ℕ) → HasPlace (set words (place / 64) (bit_or n (2 ^ (place % 64)))) k ↔ (HasPlace words k ⊎ (k ≡ place))
has_more words place n at room k = grind (arith, ⊎_elim, get_or-set_same, bits_more, get_or-set_other, cases_eq)

-- a place more, where room was made before
pub has_inserted : (old words words' : List ℕ) (place n bit : ℕ) → ((i : ℕ) → get_or words i 0 ≡ get_or old i 0) → words' ≡ set words (place / 64) (bit_or n bit) → bit ≡ 2 ^ (place % 64) → n ≡ get_or words (place / 64) n → place / 64 < length words → (k : ℕ) → HasPlace words' k ↔ (HasPlace old k ⊎ (k ≡ place))
has_inserted old words words' place n bit same is b r room k = grind (arith, get_or_default, has_more, ⊎_elim)

-- on a way down from a place, of a word those bits are left that lie below the place
pub record IsScan (words : List ℕ) (place index word : ℕ) : Type 0 where
  pub low : index ≤ place / 64
  pub set : (b : ℕ) → b < 64 → IsBitSet word b → (64 * index + b < place) × IsBitSet (get_or words index 0) b
  pub rest : (k : ℕ) → k < place → HasPlace words k → (k / 64 < index) ⊎ ((k / 64 ≡ index) × IsBitSet word (k % 64))
