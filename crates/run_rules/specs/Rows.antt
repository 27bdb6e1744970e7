-- Words and texts of small runs.
use Rattle.std.specs.Prelude.{ℕ, List, ◌∷◌, codes}
use Rattle.candidate_order.specs.declared.pruning.Pruning.{Pruning}
use Rattle.collective_spec.specs.declared.kind.Kind.TheVariants.{Broadcast}
use Rattle.report_form.specs.Reports.{WordsValue}

-- the text of the topology of two nodes in a row
abbrev pub two_nodes_text : List ℕ
two_nodes_text = codes "topology 1\nnodes n0 n1\ngroup 1 n0>n1\ngroup 1 n1>n0\n"

-- one chunk is to go from the first of three nodes to the last
abbrev pub moved_text : List ℕ
moved_text = codes "topology 2\nnodes a b c\ngroup 1 a>b\ngroup 1 b>c\ncustom 1\nbefore 0 a\nafter 0 c\n"

-- the words of a search with one step and one chunk
abbrev pub search : List ℕ → List (List ℕ) → List (List ℕ)
search collective more = codes "synth" ∷ collective ∷ codes "k=0" ∷ codes "steps=1" ∷ codes "chunks=1" ∷ codes "conflicts=1000" ∷ more

-- the same of bounds
abbrev pub bounds : List ℕ → List (List ℕ) → List (List ℕ)
bounds collective more = codes "bound" ∷ collective ∷ codes "k=0" ∷ codes "steps=1" ∷ codes "chunks=1" ∷ codes "conflicts=1000" ∷ more

-- what they ask for of a broadcast
abbrev pub broadcast_words : Pruning → WordsValue
broadcast_words pruning = record { collective = record { kind = Broadcast; root = 0 }; limits = record { k = 0; max_s = 1; max_c = 1; conflicts = 1000; pruning = pruning } }
