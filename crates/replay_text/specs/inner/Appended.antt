-- What the printers of a replay append, of the values that the code keeps.
use Rattle.std.specs.{Prelude.{ℕ, ◌+◌, List, [], ◌∷◌, ◌++◌, if◌then◌else◌, filter, map, None, unwrap_or, codes, decimal}, List.{range_with_len, last_or}}
use Rattle.schedule.specs.{Placed.{PlacementValue, holds}, Bags.{Bag, Bags, contributions, held_at_2, of_placement}}
use Rattle.bag_runs.specs.Stores.{StoreValue, bag_in}
use Rattle.topology_text.specs.Spelling.{name_at}
use Rattle.replay_text.specs.Showing.{Shown, chunks_at, instance_at, is_copied, nodes_of}

-- ---- parts of the lines of a step

abbrev pub step_head : ℕ → List (List ℕ)
step_head step = codes "step" ∷ decimal step ∷ []

-- the chunks that a node holds, ascending
abbrev pub held_by : PlacementValue → ℕ → List ℕ
held_by p node = filter (λ chunk. holds p (chunk, node)) (range_with_len 0 p.chunks)

-- a node's name, and its chunks
abbrev pub holder_words : List (List ℕ) → PlacementValue → ℕ → List (List ℕ)
holder_words names p node = name_at names node ∷ map decimal (held_by p node)

-- a digit for each count
abbrev pub digits_of : List ℕ → List ℕ
digits_of counts = map (λ count. 48 + count) counts

-- a digit for each node
abbrev pub counts_word : Bag → List ℕ
counts_word bag = digits_of (held_at_2 bag)

-- a node's name, and each chunk with the counts of its bag
abbrev pub bag_words : Shown → Bags → ℕ → List (List ℕ)
bag_words x bags node = name_at x.names node ∷ map (λ chunk. decimal chunk ++ 61 ∷ counts_word (bags (chunk, node))) (range_with_len 0 (chunks_at x))

-- what each node has before the first step
abbrev pub start_bags : Shown → Bags
start_bags x = if is_copied x then of_placement (instance_at x).pre else contributions (nodes_of x)

-- ---- the lines of a store

-- a chunk, and how often each node has contributed to it at this node
abbrev pub bag_word : StoreValue → ℕ → ℕ → List ℕ
bag_word s node chunk = decimal chunk ++ 61 ∷ digits_of (bag_in s chunk node)

abbrev pub keeper_words : List (List ℕ) → StoreValue → ℕ → List (List ℕ)
keeper_words names s node = name_at names node ∷ map (bag_word s node) (range_with_len 0 s.chunks)

abbrev pub store_lines : List (List ℕ) → StoreValue → List (List (List ℕ))
store_lines names s = map (keeper_words names s) (range_with_len 0 s.nodes)

-- ---- the lines of an order

-- a seed, how many events there are, and which nodes move
abbrev pub move_lines : List (List ℕ) → ℕ → ℕ → List ℕ → List (List (List ℕ))
move_lines names seed events moves =
    (codes "order" ∷ decimal seed ∷ []) ∷ (codes "events" ∷ decimal events ∷ []) ∷ (codes "moves" ∷ map (name_at names) moves) ∷ []

-- the lines of the last step
abbrev pub last_of : List (List (List (List ℕ))) → List (List (List ℕ))
last_of steps = unwrap_or (last_or None steps) []
