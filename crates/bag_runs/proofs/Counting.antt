-- Bags with places for 16 counts, and the counts of so many nodes that they stand for.
use Rattle.std.proofs.Common.{◌≡◌, ℕ, zero, suc, ◌+◌, ◌<◌, ◌≤◌, Bool, true, ◌&&◌, cond, eqb, min, List, [], ◌∷◌, length, map, get_or, take, refl, sym, ap, ◌∙◌, arith, inl, inr, get_or-set_same, get_or-set_other}
use Rattle.std.{proofs.lemmas.{Bool.{cases_lt, eq-eqb}, List.{get_or_past, get_or-replicate, take_all, FromFn.get_or-map-range_with_len}}, specs.List.{list_all, range_with_len}}
use Rattle.schedule.specs.Bags.{added, empty_bag, held_at_2, is_empty, one_of}
use Rattle.bag_runs.{specs.Kept.{IsHeld, counted, counts_of, no_counts}, proofs.Cells.{differ, same_or_not}}

-- functions that agree give the same list
pub map_alike : {X : Type 0} (f g : ℕ → X) → ((k : ℕ) → f k ≡ g k) → (ks : List ℕ) → map f ks ≡ map g ks
map_alike f g same ks = λ i. map (λ k. same k i) ks

-- each of them is counted
pub counted_at : (nodes : ℕ) (counts : List ℕ) (node : ℕ) → node < nodes → get_or (counted nodes counts) node 0 ≡ get_or counts node 0
counted_at nodes counts node low = get_or-map-range_with_len (λ k. get_or counts k 0) 0 nodes node node 0 low (omega arith)

-- ---- no contribution, and one

zeros_length : length no_counts ≡ 16
zeros_length = refl

pub none_at : (k : ℕ) → get_or no_counts k 0 ≡ zero
none_at k = elim (cases_lt k 16) [ inl low ↦ get_or-replicate 16 k 0 0 low | inr high ↦ get_or_past no_counts k 0 (omega (arith, high, zeros_length)) ]

one_at : (node k : ℕ) → node < 16 → get_or (counts_of node) k 0 ≡ cond (eqb k node) 1 0
one_at node k low =
    elim (same_or_not k node) [
      | inl here ↦ ap (λ i. get_or (counts_of node) i 0) here ∙ get_or-set_same no_counts node 1 0 (omega (arith, zeros_length)) ∙ sym (ap (λ b. cond b 1 0) (eq-eqb k node here))
      | inr apart ↦ get_or-set_other no_counts node k 1 0 (differ k node apart) ∙ none_at k ∙ sym (ap (λ b. cond b 1 0) apart)
    ]

pub counted_none : (nodes : ℕ) → counted nodes no_counts ≡ empty_bag nodes
counted_none nodes = map_alike (λ k. get_or no_counts k 0) (λ _. 0) none_at (range_with_len 0 nodes)

pub counted_one : (node nodes : ℕ) → node < 16 → counted nodes (counts_of node) ≡ one_of nodes node
counted_one node nodes low = map_alike (λ k. get_or (counts_of node) k 0) (λ k. cond (eqb k node) 1 0) (λ k. one_at node k low) (range_with_len 0 nodes)

pub few : (b : Bool) → cond b 1 0 ≤ 2
few b = grind arith

pub held_one : (node : ℕ) → node < 16 → IsHeld (counts_of node)
held_one node low k = omega (arith, one_at node k low, few (eqb k node))

-- ---- sums

-- what a count of the sum is
abbrev pub IsSum : List ℕ → List ℕ → List ℕ → Type 0
IsSum counts a b = (k : ℕ) → get_or counts k 0 ≡ min (get_or a k 0 + get_or b k 0) 2

-- counts that were filled in order, from none
pub sum_filled : (counts a b : List ℕ) → length counts ≡ 16 → length a ≡ 16 → length b ≡ 16 → ((k : ℕ) → k < 16 → get_or counts k 0 ≡ min (get_or a k 0 + get_or b k 0) 2) → IsSum counts a b
sum_filled counts a b n m l filled k =
    elim (cases_lt k 16) [
      | inl low ↦ filled k low
      | inr high ↦ omega (arith, get_or_past counts k 0 (omega (arith, high, n)), get_or_past a k 0 (omega (arith, high, m)), get_or_past b k 0 (omega (arith, high, l)))
    ]

summed : (f g : ℕ → ℕ) (ks : List ℕ) → map (λ k. min (f k + g k) 2) ks ≡ held_at_2 (added (map f ks) (map g ks))
summed f g [] = refl
summed f g (k ∷ ks) = ap (λ xs. min (f k + g k) 2 ∷ xs) (summed f g ks)

pub counted_sum : (counts a b : List ℕ) → IsSum counts a b → (nodes : ℕ) → counted nodes counts ≡ held_at_2 (added (counted nodes a) (counted nodes b))
counted_sum counts a b sums nodes =
    map_alike (λ k. get_or counts k 0) (λ k. min (get_or a k 0 + get_or b k 0) 2) sums (range_with_len 0 nodes)
    ∙ summed (λ k. get_or a k 0) (λ k. get_or b k 0) (range_with_len 0 nodes)

-- ---- emptiness

-- the first counts of a list are all 0 exactly where those that are counted are
empty_counts : (counts : List ℕ) (nodes : ℕ) → list_all (λ count. eqb count 0) (take nodes counts) ≡ is_empty (counted nodes counts)
empty_counts counts nodes = go counts nodes 0
  where
    shifted : (c : ℕ) (cs : List ℕ) (n from : ℕ) → map (λ k. get_or (c ∷ cs) k 0) (range_with_len (from + 1) n) ≡ map (λ k. get_or cs k 0) (range_with_len from n)
    shifted c cs zero from = refl
    shifted c cs (suc n) from =
        let next : from + 1 ≡ suc from = omega arith in
        ap (λ i. get_or (c ∷ cs) i 0 ∷ map (λ k. get_or (c ∷ cs) k 0) (range_with_len (from + 1 + 1) n)) next
        ∙ ap (λ xs. get_or cs from 0 ∷ xs) (shifted c cs n (from + 1))

    none_past : (n from : ℕ) → list_all (λ count. eqb count 0) (map (λ k. get_or [] k 0) (range_with_len from n)) ≡ true
    none_past zero from = refl
    none_past (suc n) from = none_past n (from + 1)

    go : (cs : List ℕ) (n : ℕ) (z : ℕ) → list_all (λ count. eqb count 0) (take n cs) ≡ list_all (λ count. eqb count 0) (map (λ k. get_or cs k 0) (range_with_len 0 n))
    go [] zero z = refl
    go [] (suc n) z = sym (none_past n (0 + 1))
    go (c ∷ cs) zero z = refl
    go (c ∷ cs) (suc n) z =
        ap (λ t. eqb c 0 && t) (go cs n z ∙ ap (list_all (λ count. eqb count 0)) (sym (shifted c cs n 0)))

-- so it is where at most 16 are looked at
pub empty_front : (counts : List ℕ) (nodes places : ℕ) → length counts ≡ 16 → places ≡ min nodes 16 → is_empty (take places counts) ≡ is_empty (counted nodes counts)
empty_front counts nodes places size is =
    elim (cases_lt nodes 16) [
      | inl low ↦ (let all : places ≡ nodes = omega (arith, is, low) in ap (λ n. is_empty (take n counts)) all ∙ empty_counts counts nodes)
      | inr high ↦ (let all : places ≡ 16 = omega (arith, is, high) in
          ap (λ n. is_empty (take n counts)) all ∙ ap is_empty (take_all 16 counts (omega (arith, size)) ∙ sym (take_all nodes counts (omega (arith, size, high)))) ∙ empty_counts counts nodes)
    ]
