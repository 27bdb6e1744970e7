-- Stores as lists of bags, a row of nodes for each chunk.
use Rattle.std.proofs.{Common.{◌≡◌, ℕ, ◌+◌, ◌*◌, ◌/◌, ◌%◌, ◌<◌, ◌≤◌, Bool, true, false, cond, eqb, List, [], ◌∷◌, length, map, get_or, set, refl, sym, ap, ◌∙◌, arith}, lemmas.List.Elements.{All-from_recursion, All-set, recursion_from_All}}
use Rattle.std.{proofs.lemmas.{Nat.{div-mul-add, mod-mul-add, mul-add-lt}, List.{get_or-map, length-map, length-set, map-set, FromFn.{get_or-map-range_with_len, length-map-range_with_len}}}, specs.List.range_with_len}
use Rattle.schedule.specs.{Placed.{PlacementValue, holds}, Bags.{Bag, contributions, empty_bag, held_at_2, of_placement, one_of}}
use Rattle.bag_runs.specs.{declared.mode.Mode.Mode, Stores.{StoreValue, bag_in, bags_in, received, stored, with_bag}, Kept.{IsFilled, IsHeld, IsStore, counted, counts_of, counts_where}}
use Rattle.bag_runs.proofs.{Tables.{column_below, same_table}, Counting.{counted_none, counted_one, few, held_one, none_at}}

-- ---- what is held at 2 stays as it is

held_small : (f : ℕ → ℕ) → ((k : ℕ) → f k ≤ 2) → (ks : List ℕ) → held_at_2 (map f ks) ≡ map f ks
held_small f small [] = refl
held_small f small (k ∷ ks) = grind (arith, held_small f small ks)

pub held_counted : (nodes : ℕ) (counts : List ℕ) → IsHeld counts → held_at_2 (counted nodes counts) ≡ counted nodes counts
held_counted nodes counts held = held_small (λ k. get_or counts k 0) held (range_with_len 0 nodes)

pub held_one_of : (nodes node : ℕ) → held_at_2 (one_of nodes node) ≡ one_of nodes node
held_one_of nodes node = held_small (λ other. cond (eqb other node) 1 0) (λ other. few (eqb other node)) (range_with_len 0 nodes)

pub held_empty_bag : (nodes : ℕ) → held_at_2 (empty_bag nodes) ≡ empty_bag nodes
held_empty_bag nodes = held_small (λ _. 0) (λ _. omega arith) (range_with_len 0 nodes)

-- ---- a store is made of its own bags

abbrev pub value : ℕ → ℕ → List (List ℕ) → StoreValue
value chunks nodes bags = record { chunks = chunks; nodes = nodes; bags = map (counted nodes) bags }

-- bags with the right cells are a store
by_cells : (chunks nodes : ℕ) (f : ℕ × ℕ → Bag) (bags : List (List ℕ)) → length bags ≡ chunks * nodes
    → ((c b : ℕ) → b < nodes → c * nodes + b < length bags → counted nodes (get_or bags (c * nodes + b) []) ≡ held_at_2 (f (c, b))) → value chunks nodes bags ≡ stored chunks nodes f
by_cells chunks nodes f bags size right =
    ap (λ (cells : List Bag). make cells) (same_table (λ pair. held_at_2 (f pair)) nodes chunks (map (counted nodes) bags) [] (length-map bags (counted nodes) ∙ size)
    (λ c b low inside.
    let at : c * nodes + b < length bags = omega (arith, size, mul-add-lt c nodes b chunks low inside) in
    get_or-map (counted nodes) bags (c * nodes + b) [] [] at ∙ right c b inside at))
  where
    make : List Bag → StoreValue
    make cells = record { chunks = chunks; nodes = nodes; bags = cells }

pub store_stored : (chunks nodes : ℕ) (bags : List (List ℕ)) → IsFilled chunks nodes bags → IsStore (value chunks nodes bags)
store_stored chunks nodes bags filled = by_cells chunks nodes (bags_in (value chunks nodes bags)) bags filled.size (λ c b inside at.
    sym (ap held_at_2 (get_or-map (counted nodes) bags (c * nodes + b) [] [] at) ∙ held_counted nodes (get_or bags (c * nodes + b) []) (All-from_recursion IsHeld bags filled.held (c * nodes + b) [] at)))

-- ---- the bags of all places, by chunk and then by node

module _ (chunks nodes : ℕ) (f : ℕ × ℕ → Bag) (g : ℕ × ℕ → List ℕ) (bags : List (List ℕ)) (is : bags ≡ map (λ place. g (place / nodes, place % nodes)) (range_with_len 0 (chunks * nodes)))
    (right : (c b : ℕ) → b < nodes → IsHeld (g (c, b)) × (counted nodes (g (c, b)) ≡ held_at_2 (f (c, b)))) where
  places : length bags ≡ chunks * nodes
  places = ap length is ∙ length-map-range_with_len (λ place. g (place / nodes, place % nodes)) 0 (chunks * nodes)

  place_at : (k : ℕ) (d : List ℕ) → k < length bags → get_or bags k d ≡ g (k / nodes, k % nodes)
  place_at k d inside = ap (λ xs. get_or xs k d) is ∙ get_or-map-range_with_len (λ place. g (place / nodes, place % nodes)) 0 (chunks * nodes) k k d (omega (arith, inside, places)) (omega arith)

  pub all_places : IsFilled chunks nodes bags × (value chunks nodes bags ≡ stored chunks nodes f)
  all_places = (
    record { size = places; held = recursion_from_All IsHeld bags (λ k d inside. rw (place_at k d inside) (right (k / nodes) (k % nodes) (column_below k chunks nodes (omega (arith, inside, places)))).0) },
    by_cells chunks nodes f bags places (λ c b inside at.
        ap (counted nodes) (place_at (c * nodes + b) [] at) ∙ ap (λ a. counted nodes (g (a, (c * nodes + b) % nodes))) (div-mul-add c nodes b inside)
        ∙ ap (λ a. counted nodes (g (c, a))) (mod-mul-add c nodes b inside) ∙ (right c b inside).1),
  )

where_held : (held : Bool) (nodes : ℕ) → IsHeld (counts_where held) × (counted nodes (counts_where held) ≡ held_at_2 (cond held (one_of nodes 0) (empty_bag nodes)))
where_held true nodes = (held_one 0 (omega arith), counted_one 0 nodes (omega arith) ∙ sym (held_one_of nodes 0))
where_held false nodes = (λ k. omega (arith, none_at k), counted_none nodes ∙ sym (held_empty_bag nodes))

-- of what is held
pub filled_of_placement : (p : PlacementValue) (bags : List (List ℕ)) → bags ≡ map (λ place. counts_where (holds p (place / p.nodes, place % p.nodes))) (range_with_len 0 (p.chunks * p.nodes))
    → IsFilled p.chunks p.nodes bags × (value p.chunks p.nodes bags ≡ stored p.chunks p.nodes (of_placement p))
filled_of_placement p bags is = all_places p.chunks p.nodes (of_placement p) (λ pair. counts_where (holds p pair)) bags is (λ c b low. where_held (holds p (c, b)) p.nodes)

-- of one contribution of each node
pub filled_of_contributions : (chunks nodes : ℕ) (bags : List (List ℕ)) → nodes ≤ 16 → bags ≡ map (λ place. counts_of (place % nodes)) (range_with_len 0 (chunks * nodes))
    → IsFilled chunks nodes bags × (value chunks nodes bags ≡ stored chunks nodes (contributions nodes))
filled_of_contributions chunks nodes bags few is =
    all_places chunks nodes (contributions nodes) (λ pair. counts_of pair.1) bags is
    (λ c b low. (held_one b (omega (arith, low, few)), counted_one b nodes (omega (arith, low, few)) ∙ sym (held_one_of nodes b)))

-- ---- one bag changed

module _ (chunks nodes : ℕ) (bags : List (List ℕ)) (chunk node : ℕ) (new : List ℕ) where
  pub filled_set : IsFilled chunks nodes bags → IsHeld new → IsFilled chunks nodes (set bags (chunk * nodes + node) new)
  filled_set filled held = record { size = length-set bags (chunk * nodes + node) new ∙ filled.size; held = recursion_from_All IsHeld (set bags (chunk * nodes + node) new) (All-set IsHeld bags (chunk * nodes + node) new held (All-from_recursion IsHeld bags filled.held)) }

  -- what has arrived at a node
  pub received_here : (mode : Mode) (own arrived : List ℕ) → IsFilled chunks nodes bags → chunk < chunks → node < nodes → own ≡ get_or bags (chunk * nodes + node) own
      → counted nodes new ≡ received mode (counted nodes own) (counted nodes arrived)
      → value chunks nodes (set bags (chunk * nodes + node) new)
      ≡ with_bag (value chunks nodes bags) chunk node (received mode (bag_in (value chunks nodes bags) chunk node) (counted nodes arrived))
  received_here mode own arrived filled low inside is arrives = grind (arith, get_or-map, map-set)
