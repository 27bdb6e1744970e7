-- Tables of what a cover has not covered yet. This project's own.
use Rattle.std.specs.{Prelude.{◌≡◌, ◌==◌, ◌&&◌, ◌<◌, not, Bool, false, ℕ, List, slice_index_or}, List.list_any}
use Rattle.schedule.specs.{Links.{GroupValue, TopologyValue, has_link}, Placed.same_pair, Tables.{Marks, marked_at}, Judging.group_at}
use Rattle.node_cuts.specs.{declared.greedy.Choice.Choice, Sides.NodeSet, Cuts.{all_groups, enters, is_among, opened}}

-- the new table has the links of the old that are none of these
abbrev pub RemovesLinks : List Bool → List Bool → List (ℕ × ℕ) → Type 0
RemovesLinks old new links = Marks new (λ link. marked_at old link && not (list_any (same_pair link) links))

-- the table has the links into the set that stand in none of these groups
abbrev pub MarksOpen : List Bool → NodeSet → TopologyValue → List ℕ → Type 0
MarksOpen cells u t groups = Marks cells (λ link. enters u link && not (is_among t groups link))

-- the table says of each number below 256 whether it is one of these
abbrev pub MarksNumbers : List Bool → List ℕ → Type 0
MarksNumbers cells numbers = (n : ℕ) → n < 256 → slice_index_or cells n false ≡ list_any (λ other. other == n) numbers

-- one of the group's links is in the table
abbrev pub is_open : List Bool → GroupValue → Bool
is_open cells group = list_any (marked_at cells) group.links

-- the group shares no link with another
abbrev pub is_alone : TopologyValue → ℕ → Bool
is_alone t group = not (list_any (λ other. not (other == group) && list_any (has_link (group_at t group)) (group_at t other).links) (all_groups t))

-- a group, how many links it opens to a set beside groups that were taken, and its width
abbrev pub choice_of : NodeSet → TopologyValue → List ℕ → ℕ → Choice
choice_of u t taken group = record { group = group; opened = opened u t taken group; width = (group_at t group).width }

-- the new table has the links of the old that stand in none of these groups
abbrev pub RemovesGroups : List Bool → List Bool → TopologyValue → List ℕ → Type 0
RemovesGroups old new t groups = Marks new (λ link. marked_at old link && not (is_among t groups link))
