-- The one spelling of a topology (this project's own text).
use Rattle.std.specs.{Prelude.{ℕ, Bool, true, false, List, [], ◌∷◌, ◌++◌, map, filter, slice_index_or, codes, decimal, Option, None, Some}, List.{flat_map, range_with_len}}
use Rattle.schedule.specs.{Placed.{PlacementValue, holds}, Links.GroupValue}
use Rattle.collective_spec.specs.Patterns.{PatternValue}
use Rattle.text_lines.specs.Text.{text_of}
use Rattle.topology_text.specs.Value.{NamedTopologyValue}

abbrev pub name_at : List (List ℕ) → ℕ → List ℕ
name_at names node = slice_index_or names node []

-- a name, `>` and a name
abbrev pub link_word : List (List ℕ) → ℕ × ℕ → List ℕ
link_word names link = name_at names link.0 ++ 62 ∷ name_at names link.1

-- version 2 has a pattern behind the groups, and version 1 has none
abbrev pub version_word : Option PatternValue → List ℕ
version_word None = codes "1"
version_word (Some p) = codes "2"

-- the words of the first line, by whether a pattern follows the groups
abbrev pub head_words : Bool → List (List ℕ)
head_words false = codes "topology" ∷ codes "1" ∷ []
head_words true = codes "topology" ∷ codes "2" ∷ []

abbrev pub group_words : List (List ℕ) → GroupValue → List (List ℕ)
group_words names group = codes "group" ∷ decimal group.width ∷ map (link_word names) group.links

-- which chunk of the pattern it is, and the names of the nodes that hold it, ascending by their numbers
abbrev pub holder_words : List (List ℕ) → List ℕ → PlacementValue → ℕ → List (List ℕ)
holder_words names word p g = word ∷ decimal g ∷ map (name_at names) (filter (λ node. holds p (g, node)) (range_with_len 0 p.nodes))

-- the lines of a pattern: its number of chunks, and for each chunk who holds it before and after
abbrev pub custom_lines : List (List ℕ) → Option PatternValue → List (List (List ℕ))
custom_lines names None = []
custom_lines names (Some p) =
    (codes "custom" ∷ decimal p.base ∷ [])
    ∷ flat_map (λ g. holder_words names (codes "before") p.before g ∷ holder_words names (codes "after") p.after g ∷ []) (range_with_len 0 p.base)

-- the tokens of each line
abbrev pub lines_of : NamedTopologyValue → List (List (List ℕ))
lines_of t = (codes "topology" ∷ version_word t.custom ∷ []) ∷ (codes "nodes" ∷ t.names) ∷ map (group_words t.names) t.topology.groups ++ custom_lines t.names t.custom

unfoldable pub spelling : NamedTopologyValue → List ℕ
spelling t = text_of (lines_of t)

-- ---- the first two lines, by which code and proofs go

abbrev pub header_words : Option PatternValue → List (List ℕ)
header_words custom = codes "topology" ∷ version_word custom ∷ []

abbrev pub nodes_words : List (List ℕ) → List (List ℕ)
nodes_words names = codes "nodes" ∷ names
