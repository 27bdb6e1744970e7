-- Chunks that are alike: the test decides an equivalence, and chunks that are alike have one watch node.
use Rattle.std.{proofs.{Common.{◌≡◌, ℕ, zero, suc, ◌+◌, ◌<◌, ◌≤◌, Bool, true, Some, refl, sym, ap, ◌∙◌, arith, ◌&&◌, not, find}, lemmas.Bool.{and_parts, and_from}}, specs.{Cmp.booleans_Decides, List.{list_all, range_with_len}}}
use mathlib.Core.Bool.{beq}
use Rattle.schedule.specs.Placed.{PlacementValue, holds, lacks}
use Rattle.chunk_order.specs.Alike.{stand_alike, is_alike, watch_node}

-- ---- tests over a range

pub range_at : (p : ℕ → Bool) (a n k : ℕ) → list_all p (range_with_len a n) ≡ true → a ≤ k → k < a + n → p k ≡ true
range_at p a zero k all low high = absurd (omega (arith, low, high))
range_at p a (suc n) k all low high = grind (arith, range_at p (a + 1) n k)

pub range_all : (p : ℕ → Bool) (a n : ℕ) → ((k : ℕ) → a ≤ k → k < a + n → p k ≡ true) → list_all p (range_with_len a n) ≡ true
range_all p a zero each = refl
range_all p a (suc n) each = grind (arith, each, range_all p (a + 1) n)

pub find_alike : (p q : ℕ → Bool) (a n : ℕ) → ((k : ℕ) → a ≤ k → k < a + n → p k ≡ q k) → find p (range_with_len a n) ≡ find q (range_with_len a n)
find_alike p q a zero same = refl
find_alike p q a (suc n) same = grind (arith, same a, find_alike p q (a + 1) n (λ k low high. same k (omega (arith, low)) (omega (arith, high))))

find_below : (p : ℕ → Bool) (a n k : ℕ) → find p (range_with_len a n) ≡ Some k → k < a + n
find_below p a zero k found = absurd cc
find_below p a (suc n) k found = grind (arith, find_below p (a + 1) n k)

-- ---- placements of two chunks

stand_is : (p : PlacementValue) (c d n : ℕ) → stand_alike p c d ≡ true → n < p.nodes → holds p (c, n) ≡ holds p (d, n)
stand_is p c d n h low = (booleans_Decides (holds p (c, n)) (holds p (d, n))).0 (range_at (λ node. beq (holds p (c, node)) (holds p (d, node))) 0 p.nodes n h (omega arith) (omega (arith, low)))

stand_from : (p : PlacementValue) (c d : ℕ) → ((n : ℕ) → n < p.nodes → holds p (c, n) ≡ holds p (d, n)) → stand_alike p c d ≡ true
stand_from p c d same = range_all (λ node. beq (holds p (c, node)) (holds p (d, node))) 0 p.nodes (λ n low high. (booleans_Decides (holds p (c, n)) (holds p (d, n))).1 (same n (omega (arith, high))))

-- ---- chunks that are alike

module _ (pre post : PlacementValue) where
  pub alike_before : (c d n : ℕ) → is_alike pre post c d ≡ true → n < pre.nodes → holds pre (c, n) ≡ holds pre (d, n)
  alike_before c d n h low = stand_is pre c d n (and_parts (stand_alike pre c d) (stand_alike post c d) h).0 low

  pub alike_after : (c d n : ℕ) → is_alike pre post c d ≡ true → n < post.nodes → holds post (c, n) ≡ holds post (d, n)
  alike_after c d n h low = stand_is post c d n (and_parts (stand_alike pre c d) (stand_alike post c d) h).1 low

  pub alike_from : (c d : ℕ) → ((n : ℕ) → n < pre.nodes → holds pre (c, n) ≡ holds pre (d, n)) → ((n : ℕ) → n < post.nodes → holds post (c, n) ≡ holds post (d, n)) → is_alike pre post c d ≡ true
  alike_from c d before after = and_from (stand_alike pre c d) (stand_alike post c d) (stand_from pre c d before) (stand_from post c d after)

  pub alike_itself : (c : ℕ) → is_alike pre post c c ≡ true
  alike_itself c = alike_from c c (λ n low. refl) (λ n low. refl)

  pub alike_back : (c d : ℕ) → is_alike pre post c d ≡ true → is_alike pre post d c ≡ true
  alike_back c d h = alike_from d c (λ n low. sym (alike_before c d n h low)) (λ n low. sym (alike_after c d n h low))

  pub alike_both : (c d e : ℕ) → is_alike pre post c d ≡ true → is_alike pre post d e ≡ true → is_alike pre post c e ≡ true
  alike_both c d e h i = alike_from c e (λ n low. alike_before c d n h low ∙ alike_before d e n i low) (λ n low. alike_after c d n h low ∙ alike_after d e n i low)

  -- chunks that are alike have one watch node
  pub watch_alike : (c d : ℕ) → post.nodes ≡ pre.nodes → is_alike pre post c d ≡ true → watch_node pre post c ≡ watch_node pre post d
  watch_alike c d nodes h =
      find_alike (λ node. lacks post pre (c, node)) (λ node. lacks post pre (d, node)) 0 post.nodes (λ n low high.
      ap (λ b. b && not (holds pre (c, n))) (alike_after c d n h (omega (arith, high)))
      ∙ ap (λ b. holds post (d, n) && not b) (alike_before c d n h (omega (arith, high, nodes))))

  pub watch_below : (c n : ℕ) → watch_node pre post c ≡ Some n → n < post.nodes
  watch_below c n found = omega (arith, find_below (λ node. lacks post pre (c, node)) 0 post.nodes n found)
