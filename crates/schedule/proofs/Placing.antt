-- What a placement holds, when it is given by a test, made empty, or had a pair added; and when two are the same.
use Rattle.std.proofs.{Common.{◌≡◌, ℕ, zero, suc, ◌+◌, ◌<◌, ◌≤◌, Bool, true, false, ◌||◌, ◌&&◌, List, [], ◌∷◌, map, inl, inr, refl, sym, ap, ◌∙◌, arith}, lemmas.{List.Folds.list_any-append, Map.Views.any-filter_same}}
use Rattle.std.{proofs.{lemmas.Bool.{eq-eqb, and_from, or_left, or_right, cases_eq}, Math.Bool.and-true}, specs.List.{list_any, flat_map, range_with_len, filter, AllByRecursion}}
use Rattle.schedule.{specs.Placed.{PlacementValue, same_pair, holds, all_pairs, placed, IsPlacement, empty_placement, with_pair}, proofs.First.each_append}

-- the test on pairs tells them apart
pub pair_is : (a b : ℕ × ℕ) → same_pair a b ≡ true → a ≡ b
pair_is (a, b) (c, d) h = grind arith

pub pair_itself : (a : ℕ × ℕ) → same_pair a a ≡ true
pair_itself a = and_from _ _ (eq-eqb a.0 a.0 refl) (eq-eqb a.1 a.1 refl)

-- the node stands in the row of its chunk
in_row : (chunk node from len : ℕ) → from ≤ node → node < from + len → list_any (same_pair (chunk, node)) (map (λ n. (chunk, n)) (range_with_len from len)) ≡ true
in_row chunk node from zero low high = absurd (omega arith)
in_row chunk node from (suc len) low high = grind (arith, in_row chunk node (from + 1) len)

pub in_rows : (chunk node nodes from len : ℕ) → node < nodes → from ≤ chunk → chunk < from + len → list_any (same_pair (chunk, node)) (flat_map (λ c. map (λ n. (c, n)) (range_with_len 0 nodes)) (range_with_len from len)) ≡ true
in_rows chunk node nodes from zero below low high = absurd (omega arith)
in_rows chunk node nodes from (suc len) below low high =
    let row : ℕ → List (ℕ × ℕ) = λ c. map (λ n. (c, n)) (range_with_len 0 nodes) in
    list_any-append (same_pair (chunk, node)) (row from) (flat_map row (range_with_len (from + 1) len))
    ∙ elim (cases_eq chunk from) [
      | inl here ↦ or_left _ _ (ap (λ c. list_any (same_pair (chunk, node)) (row c)) (sym here) ∙ in_row chunk node 0 nodes (omega arith) (omega arith))
      | inr later ↦ or_right _ _ (in_rows chunk node nodes (from + 1) len below (omega (arith, later)) (omega arith))
    ]

-- every pair in range is among all
pub among_all : (chunks nodes : ℕ) (pair : ℕ × ℕ) → pair.0 < chunks → pair.1 < nodes → list_any (same_pair pair) (all_pairs chunks nodes) ≡ true
among_all chunks nodes (chunk, node) c n = in_rows chunk node nodes 0 chunks n (omega arith) (omega arith)

-- a pair of numbers below these
abbrev pub IsBelow : ℕ → ℕ → ℕ × ℕ → Type 0
IsBelow chunks nodes pair = (pair.0 < chunks) × (pair.1 < nodes)

row_below : (chunks nodes chunk from len : ℕ) → chunk < chunks → from + len ≤ nodes → AllByRecursion (IsBelow chunks nodes) (map (λ n. (chunk, n)) (range_with_len from len))
row_below chunks nodes chunk from zero c n = tt
row_below chunks nodes chunk from (suc len) c n = grind (arith, row_below chunks nodes chunk (from + 1) len c (omega arith))

rows_below : (chunks nodes from len : ℕ) → from + len ≤ chunks → AllByRecursion (IsBelow chunks nodes) (flat_map (λ c. map (λ n. (c, n)) (range_with_len 0 nodes)) (range_with_len from len))
rows_below chunks nodes from zero c = tt
rows_below chunks nodes from (suc len) c =
    each_append (IsBelow chunks nodes) _ _ (row_below chunks nodes from 0 nodes (omega arith) (omega arith)) (rows_below chunks nodes (from + 1) len (omega arith))

-- and each of all is in range
pub all_below : (chunks nodes : ℕ) → AllByRecursion (IsBelow chunks nodes) (all_pairs chunks nodes)
all_below chunks nodes = rows_below chunks nodes 0 chunks (omega arith)

pub filter_alike : {X : Type 0} (P : X → Type 0) (f g : X → Bool) → ((x : X) → P x → f x ≡ g x) → (xs : List X) → AllByRecursion P xs → filter f xs ≡ filter g xs
filter_alike P f g same [] a = refl
filter_alike P f g same (x ∷ xs) a = grind (arith, filter_alike P f g same xs a.1)

filter_none : {X : Type 0} (P : X → Type 0) (f : X → Bool) → ((x : X) → P x → f x ≡ false) → (xs : List X) → AllByRecursion P xs → filter f xs ≡ []
filter_none P f none [] a = refl
filter_none P f none (x ∷ xs) a = rw (none x a.0) (filter_none P f none xs a.1)

-- two tests that agree in range give the same placement
pub placed-alike : (chunks nodes : ℕ) (f g : ℕ × ℕ → Bool) → ((pair : ℕ × ℕ) → pair.0 < chunks → pair.1 < nodes → f pair ≡ g pair) → placed chunks nodes f ≡ placed chunks nodes g
placed-alike chunks nodes f g same = grind (arith, filter_alike, all_below)

-- a test that no pair in range passes gives the placement of no pair
pub placed-none : (chunks nodes : ℕ) (f : ℕ × ℕ → Bool) → ((pair : ℕ × ℕ) → pair.0 < chunks → pair.1 < nodes → f pair ≡ false) → placed chunks nodes f ≡ empty_placement chunks nodes
placed-none chunks nodes f none = grind (arith, filter_none, all_below)

-- in range, the placement of a test holds what passes the test
pub holds-placed : (chunks nodes : ℕ) (f : ℕ × ℕ → Bool) (pair : ℕ × ℕ) → pair.0 < chunks → pair.1 < nodes → holds (placed chunks nodes f) pair ≡ f pair
holds-placed chunks nodes f pair c n =
    any-filter_same (same_pair pair) f (f pair) (λ k same. ap f (sym (pair_is pair k same))) (all_pairs chunks nodes)
    ∙ (ap (λ b. f pair && b) (among_all chunks nodes pair c n) ∙ and-true (f pair))

-- what a test gives is a placement
pub placement-placed : (chunks nodes : ℕ) (f : ℕ × ℕ → Bool) → IsPlacement (placed chunks nodes f)
placement-placed chunks nodes f = grind (arith, placed-alike, holds-placed)

pub placement-with_pair : (p : PlacementValue) (pair : ℕ × ℕ) → IsPlacement (with_pair p pair)
placement-with_pair p pair = placement-placed p.chunks p.nodes (λ other. same_pair pair other || holds p other)

-- a pair that was added is held, and others as before
pub holds-with_pair : (p : PlacementValue) (added pair : ℕ × ℕ) → pair.0 < p.chunks → pair.1 < p.nodes → holds (with_pair p added) pair ≡ (same_pair added pair || holds p pair)
holds-with_pair p added pair c n = grind (arith, holds-placed)

-- placements of one size that hold the same pairs in range are one
pub same_placement : (p q : PlacementValue) → IsPlacement p → IsPlacement q → p.chunks ≡ q.chunks → p.nodes ≡ q.nodes → ((pair : ℕ × ℕ) → pair.0 < p.chunks → pair.1 < p.nodes → holds p pair ≡ holds q pair) → p ≡ q
same_placement p q is_p is_q chunks nodes same = grind (arith, placed-alike)
