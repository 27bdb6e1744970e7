-- Placements: sets of pairs of a chunk and a node that holds it (Cai et al., PPoPP 2021, section on collectives).
use Rattle.std.specs.{Prelude.{◌≡◌, ◌==◌, ◌&&◌, ◌||◌, ℕ, Bool, true, not, List, [], map, filter}, List.{list_any, flat_map, range_with_len}}

-- how many chunks and nodes there are, and the pairs, ascending and each once
pub record PlacementValue : Type 0 where
  pub chunks : ℕ
  pub nodes : ℕ
  pub pairs : List (ℕ × ℕ)

abbrev pub same_pair : ℕ × ℕ → ℕ × ℕ → Bool
same_pair a b = a.0 == b.0 && a.1 == b.1

-- the node has the chunk
abbrev pub holds : PlacementValue → ℕ × ℕ → Bool
holds p pair = list_any (same_pair pair) p.pairs

-- the pair is in a placement and not in another
abbrev pub lacks : PlacementValue → PlacementValue → ℕ × ℕ → Bool
lacks post last pair = holds post pair && not (holds last pair)

-- every pair, by chunk and then by node
abbrev pub all_pairs : ℕ → ℕ → List (ℕ × ℕ)
all_pairs chunks nodes = flat_map (λ chunk. map (λ node. (chunk, node)) (range_with_len 0 nodes)) (range_with_len 0 chunks)

-- the placement of the pairs that pass a test
abbrev pub placed : ℕ → ℕ → (ℕ × ℕ → Bool) → PlacementValue
placed chunks nodes test = record { chunks = chunks; nodes = nodes; pairs = filter test (all_pairs chunks nodes) }

-- a placement is the set of its own pairs, each in range
abbrev pub IsPlacement : PlacementValue → Type 0
IsPlacement p = p ≡ placed p.chunks p.nodes (holds p)

abbrev pub empty_placement : ℕ → ℕ → PlacementValue
empty_placement chunks nodes = record { chunks = chunks; nodes = nodes; pairs = [] }

abbrev pub with_pair : PlacementValue → ℕ × ℕ → PlacementValue
with_pair p pair = placed p.chunks p.nodes (λ other. same_pair pair other || holds p other)

-- no chunk is held by two nodes
abbrev pub HeldByOne : PlacementValue → Type 0
HeldByOne p = (chunk a b : ℕ) → holds p (chunk, a) ≡ true → holds p (chunk, b) ≡ true → a ≡ b
