-- No count is uneven exactly where each bag has one of each node.
use Rattle.std.proofs.{Common.{◌≡◌, ℕ, zero, suc, ◌+◌, ◌<◌, ◌≤◌, false, not, eqb, List, [], ◌∷◌, ◌++◌, length, map, get_or, None, ap, ◌∙◌, arith, All}, lemmas.Bool.{eqb-true, eq-eqb, not-false, not_from_true}}
use Rattle.std.{proofs.lemmas.List.{FromFn.get_or-map-range_with_len, Elements.{All-from_recursion, recursion_from_All}}, specs.List.{AllByRecursion, range_with_len}}
use Rattle.schedule.{specs.Bags.{Bag, Bags, one_of_each}, proofs.{Bagging.one_each, First.{found_none, none_found, each_append}}}
use Rattle.list_laws.proofs.Each.{each_map}
use Rattle.inversion.specs.Judging.{count_of, counts_due, first_uneven}

each_split : {X : Type 0} (P : X → Type 0) (xs ys : List X) → AllByRecursion P (xs ++ ys) → AllByRecursion P xs × AllByRecursion P ys
each_split P [] ys each = (tt, each)
each_split P (x ∷ xs) ys each = let rest = each_split P xs ys each.1 in ((each.0, rest.0), rest.1)

-- in a row of counts each is even
abbrev IsEven : Bag → ℕ → Type 0
IsEven bag node = not (eqb (get_or bag node 0) 1) ≡ false

abbrev IsDueEven : Bags → ℕ × ℕ × ℕ → Type 0
IsDueEven bags due = not (eqb (count_of bags due) 1) ≡ false

unmapped : (bags : Bags) (pair : ℕ × ℕ) (nodes : List ℕ) → AllByRecursion (IsDueEven bags) (map (λ node. (pair.0, pair.1, node)) nodes) → AllByRecursion (IsEven (bags pair)) nodes
unmapped bags pair [] each = tt
unmapped bags pair (n ∷ nodes) each = (each.0, unmapped bags pair nodes each.1)

row_ones : (bag : Bag) (a n : ℕ) → AllByRecursion (IsEven bag) (range_with_len a n) → (i : ℕ) → a ≤ i → i < a + n → get_or bag i 0 ≡ 1
row_ones bag a zero each i from to = absurd (omega arith)
row_ones bag a (suc n) each i from to =
    grind (arith, eqb-true (get_or bag a 0) 1 (not-false _ each.0), row_ones bag (a + 1) n each.1 i)

ones_row : (bag : Bag) (a n : ℕ) → ((i : ℕ) → a ≤ i → i < a + n → get_or bag i 0 ≡ 1) → AllByRecursion (IsEven bag) (range_with_len a n)
ones_row bag a zero ones = tt
ones_row bag a (suc n) ones =
    (not_from_true _ (eq-eqb _ _ (ones a (omega arith) (omega arith))), ones_row bag (a + 1) n (λ i from to. ones i (omega (arith, from)) (omega (arith, to))))

row_whole : (nodes : ℕ) (bag : Bag) → bag ≡ one_of_each nodes → AllByRecursion (IsEven bag) (range_with_len 0 nodes)
row_whole nodes bag is = ones_row bag 0 nodes (λ i from to. ap (λ b. get_or b i 0) is ∙ get_or-map-range_with_len (λ _. 1) 0 nodes i i 0 (omega (arith, to)) (omega arith))

rows_whole : (bags : Bags) (nodes : ℕ) → ((pair : ℕ × ℕ) → length (bags pair) ≡ nodes) → (pairs : List (ℕ × ℕ)) → AllByRecursion (IsDueEven bags) (counts_due nodes pairs) → AllByRecursion (λ pair. bags pair ≡ one_of_each nodes) pairs
rows_whole bags nodes counted [] each = tt
rows_whole bags nodes counted (pair ∷ pairs) each =
    let parts = each_split (IsDueEven bags) (map (λ node. (pair.0, pair.1, node)) (range_with_len 0 nodes)) (counts_due nodes pairs) each in
    let row = unmapped bags pair (range_with_len 0 nodes) parts.0 in
    (one_each nodes (bags pair) (counted pair) (λ i inside. row_ones (bags pair) 0 nodes row i (omega arith) (omega (arith, inside))), rows_whole bags nodes counted pairs parts.1)

whole_rows : (bags : Bags) (nodes : ℕ) (pairs : List (ℕ × ℕ)) → AllByRecursion (λ pair. bags pair ≡ one_of_each nodes) pairs → AllByRecursion (IsDueEven bags) (counts_due nodes pairs)
whole_rows bags nodes [] each = tt
whole_rows bags nodes (pair ∷ pairs) each =
    each_append (IsDueEven bags) (map (λ node. (pair.0, pair.1, node)) (range_with_len 0 nodes)) (counts_due nodes pairs) (each_map (IsEven (bags pair)) (IsDueEven bags) (λ node. (pair.0, pair.1, node)) (λ node it. it) (range_with_len 0 nodes) (row_whole nodes (bags pair) each.0)) (whole_rows bags nodes pairs each.1)

pub even_everywhere : (bags : Bags) (nodes : ℕ) (pairs : List (ℕ × ℕ)) → ((pair : ℕ × ℕ) → length (bags pair) ≡ nodes) → first_uneven bags nodes pairs ≡ None → All (λ pair. bags pair ≡ one_of_each nodes) pairs
even_everywhere bags nodes pairs counted none =
    All-from_recursion (λ pair. bags pair ≡ one_of_each nodes) pairs (rows_whole bags nodes counted pairs (found_none (λ due. not (eqb (count_of bags due) 1)) (counts_due nodes pairs) none))

pub none_uneven : (bags : Bags) (nodes : ℕ) (pairs : List (ℕ × ℕ)) → All (λ pair. bags pair ≡ one_of_each nodes) pairs → first_uneven bags nodes pairs ≡ None
none_uneven bags nodes pairs all =
    none_found (λ due. not (eqb (count_of bags due) 1)) (counts_due nodes pairs) (whole_rows bags nodes pairs (recursion_from_All (λ pair. bags pair ≡ one_of_each nodes) pairs all))
