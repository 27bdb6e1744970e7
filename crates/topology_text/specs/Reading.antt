-- The checks of a topology text (this project's own), line by line, each line's from left to right. The first that fails
-- gives the code and the line.
use Rattle.std.specs.Prelude.{ℕ, ◌+◌, ◌==◌, ◌||◌, ◌&&◌, not, Bool, true, false, if◌then◌else◌, List, [], ◌∷◌, ◌++◌, length, drop, slice_index_or, position, Option, Some, None, Result, Ok, Err, nat_lt, nat_le, bytes_eq, codes, decimal, is_some, map, zero, suc}
use Rattle.std.specs.List.{list_any, list_all, slice_split}
use Rattle.text_lines.specs.{Text.{Row, Place, words_of, start}, Check.{◌>>=◌, refuse, need, line_part}, Number.number_up_to, Repeated.{begins, lines_at}}
use Rattle.schedule.specs.{Links.GroupValue, Placed.same_pair}
use Rattle.topology_text.specs.{declared.fault.TopologyCode.TopologyCode, Names.name_of, Value.{NamedTopologyValue, named_with}}
use Rattle.topology_text.specs.declared.fault.TopologyCode.TheVariants.{BadHeader, BadLine, BadName, NameTwice, UnknownNode, SelfLink, LinkTwice, WidthRange, TooManyNodes, TooManyGroups, NoNodes, BaseRange, NameOrder}
use Rattle.collective_spec.specs.Patterns.{PatternValue}

-- two spaces in a row, or one at an end
abbrev pub has_empty : List (List ℕ) → Bool
has_empty words = list_any (λ w. length w == 0) words

-- ---- line 1

-- whether a pattern stands behind the groups, as in version 2
abbrev pub version_of : List ℕ → Option Bool
version_of bytes = if bytes_eq bytes (codes "topology 1") then Some false else (if bytes_eq bytes (codes "topology 2") then Some true else None)

abbrev pub header_line : Option Row → Result Bool TopologyCode
header_line None = Err BadHeader
header_line (Some row) = do
  _ ← refuse (not row.whole) BadHeader
  need (version_of row.bytes) BadHeader

-- ---- line 2

-- the names that were read before, and the tokens that are left
abbrev pub names_from : List (List ℕ) → List (List ℕ) → Result (List (List ℕ)) TopologyCode
names_from before [] = Ok before
names_from before (word ∷ words) = do
  _ ← refuse (nat_le 16 (length before)) TooManyNodes
  name ← need (name_of word) BadName
  _ ← refuse (list_any (bytes_eq name) before) NameTwice
  names_from (before ++ name ∷ []) words

-- `nodes` and the names
abbrev pub nodes_line : Option Row → Result (List (List ℕ)) TopologyCode
nodes_line None = Err NoNodes
nodes_line (Some row) = do
  _ ← refuse (not row.whole) BadLine
  _ ← refuse (bytes_eq row.bytes (codes "nodes")) NoNodes
  _ ← refuse (not (begins (codes "nodes ") row.bytes) || has_empty (words_of row.bytes)) BadLine
  names_from [] (drop 1 (words_of row.bytes))

-- ---- later lines

-- what stands on the two sides of the one `>`
abbrev pub both_sides : List (List ℕ) → Result (List ℕ × List ℕ) TopologyCode
both_sides (a ∷ b ∷ []) = Ok (a, b)
both_sides _ = Err BadLine

-- the number of the node with this name
abbrev pub node_of : List (List ℕ) → List ℕ → Option ℕ
node_of names name = position (bytes_eq name) names

-- a name, `>` and a name, of two different nodes
abbrev pub link_read : List (List ℕ) → List ℕ → Result (ℕ × ℕ) TopologyCode
link_read names word = do
  sides ← both_sides (slice_split (λ b. b == 62) word)
  from ← need (node_of names sides.0) UnknownNode
  to ← need (node_of names sides.1) UnknownNode
  _ ← refuse (from == to) SelfLink
  Ok (from, to)

-- the links of the group that were read before, and the tokens that are left
abbrev pub links_from : List (List ℕ) → List (ℕ × ℕ) → List (List ℕ) → Result (List (ℕ × ℕ)) TopologyCode
links_from names before [] = Ok before
links_from names before (word ∷ words) = do
  link ← link_read names word
  _ ← refuse (list_any (same_pair link) before) LinkTwice
  links_from names (before ++ link ∷ []) words

-- a number from 1 to 16, or else this code
abbrev pub one_to_16 : TopologyCode → List ℕ → Result ℕ TopologyCode
one_to_16 code word = do
  number ← need (number_up_to 16 word) code
  _ ← refuse (number == 0) code
  Ok number

-- a line that begins `group `, after so many groups
abbrev pub group_line : List (List ℕ) → ℕ → Option Row → Result GroupValue TopologyCode
group_line names before None = Err BadLine
group_line names before (Some row) = do
  _ ← refuse (not row.whole || has_empty (words_of row.bytes) || nat_lt (length (words_of row.bytes)) 3) BadLine
  _ ← refuse (nat_le 256 before) TooManyGroups
  width ← one_to_16 WidthRange (slice_index_or (words_of row.bytes) 1 [])
  links ← links_from names [] (drop 2 (words_of row.bytes))
  Ok (record { links = links; width = width })

-- the groups, each after those that were read before; a line that doesn't begin `group ` ends them, and stays to be read
abbrev pub groups_at : List (List ℕ) → Place → Result (List GroupValue × Place) (TopologyCode × ℕ)
groups_at names p = lines_at (codes "group ") (λ before. group_line names (length before)) p

-- ---- the pattern

-- a line of two tokens that begins `custom `: how many chunks the pattern has
abbrev pub custom_line : Option Row → Result ℕ TopologyCode
custom_line None = Err BadLine
custom_line (Some row) = do
  _ ← refuse (not row.whole || not (begins (codes "custom ") row.bytes) || not (length (words_of row.bytes) == 2)) BadLine
  one_to_16 BaseRange (slice_index_or (words_of row.bytes) 1 [])

-- the nodes that were read before, ascending, and the tokens that are left
abbrev pub holders_from : List (List ℕ) → List ℕ → List (List ℕ) → Result (List ℕ) TopologyCode
holders_from names before [] = Ok before
holders_from names before (word ∷ words) = do
  node ← need (node_of names word) UnknownNode
  _ ← refuse (not (list_all (λ other. nat_lt other node) before)) NameOrder
  holders_from names (before ++ node ∷ []) words

-- the line begins with these two tokens
abbrev pub has_front : List ℕ → List ℕ → List (List ℕ) → Bool
has_front a b (x ∷ y ∷ words) = bytes_eq a x && bytes_eq b y
has_front a b _ = false

-- `before` or `after`, the number of a chunk, and the names of the nodes that hold it
abbrev pub holders_line : List (List ℕ) → List ℕ → ℕ → Option Row → Result (List ℕ) TopologyCode
holders_line names word g None = Err BadLine
holders_line names word g (Some row) = do
  _ ← refuse (not row.whole || not (has_front word (decimal g) (words_of row.bytes)) || has_empty (words_of row.bytes)) BadLine
  holders_from names [] (drop 2 (words_of row.bytes))

-- the pairs of a chunk and a node that were read, before and after
pub record Pairs : Type 0 where
  pub before : List (ℕ × ℕ)
  pub after : List (ℕ × ℕ)

-- the two lines of each of so many chunks, from chunk g on, behind the pairs that were read before
abbrev pub holders_at : List (List ℕ) → ℕ → ℕ → Pairs → Place → Result (Pairs × Place) (TopologyCode × ℕ)
holders_at names zero g found p = Ok (found, p)
holders_at names (suc left) g found p = do
  x ← line_part (holders_line names (codes "before") g) p
  y ← line_part (holders_line names (codes "after") g) x.1
  holders_at names left (g + 1) (record { before = found.before ++ map (λ n. (g, n)) x.0; after = found.after ++ map (λ n. (g, n)) y.0 }) y.1

-- the pattern of so many chunks at so many nodes
abbrev pub pattern_of : ℕ → ℕ → Pairs → PatternValue
pattern_of base nodes found = record {
  base = base;
  before = record { chunks = base; nodes = nodes; pairs = found.before };
  after = record { chunks = base; nodes = nodes; pairs = found.after };
}

-- the pattern of a text that has one, behind the groups
unfoldable pub pattern_at : Bool → List (List ℕ) → Place → Result (Option PatternValue × Place) (TopologyCode × ℕ)
pattern_at false names p = Ok (None, p)
pattern_at true names p = do
  base ← line_part custom_line p
  found ← holders_at names base.0 0 (record { before = []; after = [] }) base.1
  Ok (Some (pattern_of base.0 (length names) found.0), found.1)

-- ---- a topology at a place, and the place behind it

unfoldable pub topology_at : Place → Result (NamedTopologyValue × Place) (TopologyCode × ℕ)
topology_at p = do
  header ← line_part header_line p
  names ← line_part nodes_line header.1
  groups ← groups_at names.0 names.1
  pattern ← pattern_at header.0 names.0 groups.1
  Ok (named_with names.0 groups.0 pattern.0, pattern.1)

-- a topology, and no line behind it
unfoldable pub topology_of : List ℕ → Result NamedTopologyValue (TopologyCode × ℕ)
topology_of text = do
  found ← topology_at (start text)
  _ ← line_part (λ next. refuse (is_some next) BadLine) found.1
  Ok found.0

-- ---- names of parts of these, by which code and proofs go

-- how many chunks a pattern has
abbrev pub base_of : List ℕ → Result ℕ TopologyCode
base_of word = one_to_16 BaseRange word

-- the pairs of one chunk
abbrev pub row_of_pairs : ℕ → List ℕ → List (ℕ × ℕ)
row_of_pairs g nodes = map (λ n. (g, n)) nodes

-- the rest of a topology, behind its names
unfoldable pub named_at : Bool → List (List ℕ) → Place → Result (NamedTopologyValue × Place) (TopologyCode × ℕ)
named_at patterned names p = do
  groups ← groups_at names p
  pattern ← pattern_at patterned names groups.1
  Ok (named_with names groups.0 pattern.0, pattern.1)
