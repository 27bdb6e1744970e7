-- No more links lead into a node than there are nodes.
use Rattle.std.proofs.{Common.{◌≡◌, ◌==◌, ℕ, zero, suc, ◌+◌, ◌<◌, ◌≤◌, Bool, cond, List, [], ◌∷◌, length, map, refl, sym, ap, ◌∙◌, arith, flat_map, count_by, not}, lemmas.{Bool.eqb-true, List.Filters.sum_by-filter_both}}
use Rattle.std.{proofs.lemmas.List.Sums.{length-filter, sum_by-cons, sum_by-append}, specs.List.{range_with_len, enumerate_from}}
use Rattle.schedule.specs.{Links.{TopologyValue, is_usable, usable_links}, Placed.{PlacementValue, all_pairs}}
use Rattle.send_encoding.{specs.Variables.{map_of, links_into}, proofs.Orders.{apart_once, map_pairs, range_pairs}}

abbrev one_if : {X : Type 0} → (X → Bool) → X → ℕ
one_if q x = cond (q x) 1 0

-- as many elements pass with their numbers as without
as_many : {X : Type 0} (q : X → Bool) (k : ℕ) (xs : List X) → count_by (λ (z : ℕ × X). q z.1) (enumerate_from k xs) ≡ count_by q xs
as_many q k [] = refl
as_many {X = X} q k (x ∷ xs) = sum_by-cons (one_if (λ (z : ℕ × X). q z.1)) (k, x) (enumerate_from (k + 1) xs) ∙ ap (λ n. one_if q x + n) (as_many q (k + 1) xs) ∙ sym (sum_by-cons (one_if q) x xs)

-- ---- the pairs of nodes whose second is the node

abbrev enters : ℕ → ℕ × ℕ → Bool
enters node link = link.1 == node

abbrev row : ℕ → ℕ → ℕ → List (ℕ × ℕ)
row from a k = map (λ to. (from, to)) (range_with_len a k)

one_from : (node from n : ℕ) → count_by (enters node) (row from 0 n) ≤ 1
one_from node from n =
    let Later : ℕ × ℕ → ℕ × ℕ → Type 0 = λ a b. a.1 < b.1 in
    apart_once Later (enters node) (λ a b less t u. omega (arith, less, eqb-true a.1 node t, eqb-true b.1 node u)) (row from 0 n)
    (map_pairs (λ i j. i < j) Later (λ to. (from, to)) (λ i j less. less) (range_with_len 0 n) (range_pairs 0 n))

from_each : (node nodes a k : ℕ) → count_by (enters node) (flat_map (λ from. row from 0 nodes) (range_with_len a k)) ≤ k
from_each node nodes a zero = omega arith
from_each node nodes a (suc k) =
    let parts : count_by (enters node) (flat_map (λ from. row from 0 nodes) (range_with_len a (suc k))) ≡ count_by (enters node) (row a 0 nodes) + count_by (enters node) (flat_map (λ from. row from 0 nodes) (range_with_len (a + 1) k)) =
    sum_by-append (one_if (enters node)) (row a 0 nodes) (flat_map (λ from. row from 0 nodes) (range_with_len (a + 1) k)) in
    omega (arith, parts, one_from node a nodes, from_each node nodes (a + 1) k)

pub few_enter : (t : TopologyValue) (pre : PlacementValue) (steps node : ℕ) → length (links_into (map_of t pre steps) node) ≤ t.nodes
few_enter t pre steps node =
    let links : List (ℕ × ℕ) = usable_links t in
    let pairs : List (ℕ × ℕ) = all_pairs t.nodes t.nodes in
    let here : length (links_into (map_of t pre steps) node) ≡ count_by (enters node) links = length-filter (λ (z : ℕ × (ℕ × ℕ)). enters node z.1) (enumerate_from 0 links) ∙ as_many (enters node) 0 links in
    let less = sum_by-filter_both (is_usable t) (λ link. not (is_usable t link)) (λ _. refl) (one_if (enters node)) pairs in
    omega (arith, here, less, from_each node t.nodes 0 t.nodes)
