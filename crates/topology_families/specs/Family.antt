-- Families of topologies that are often met: paths, cycles, complete graphs, hypercubes and tori, a bus that all links share, a switch with two ports for each node, boxes with cables between them, and the hybrid cube mesh of eight processors (NVIDIA, DGX-1 system architecture, 2017).
use Rattle.std.specs.{Prelude.{◌==◌, ◌&&◌, ◌||◌, not, if◌then◌else◌, ℕ, ◌+◌, ◌*◌, ◌/◌, ◌%◌, Bool, List, [], ◌∷◌, map, filter, nat_le, codes, decimal, ◌++◌, None, bit_xor}, List.{list_any, range_with_len}}
use Rattle.schedule.specs.{Links.{GroupValue, turned}, Placed.same_pair}
use Rattle.topology_text.specs.Value.{NamedTopologyValue, named_with}
use Rattle.topology_families.specs.declared.family_kind.FamilyKind.{FamilyKind, TheVariants.{Line, Ring, Complete, Cube, Shared, Torus, Mesh, Switch, Boxes}}

-- the numbers of the kinds (this project's own)
abbrev pub kind_number : FamilyKind → ℕ
kind_number Line = 0
kind_number Ring = 1
kind_number Complete = 2
kind_number Shared = 3
kind_number Cube = 4
kind_number Torus = 5
kind_number Mesh = 6
kind_number Switch = 7
kind_number Boxes = 8

-- the sizes that a kind of family has; a kind without a line here has those from 1 to 16
abbrev pub is_allowed : FamilyKind → ℕ → Bool
is_allowed Ring size = nat_le 3 size && nat_le size 16
is_allowed Cube size = size == 2 || size == 4 || size == 8 || size == 16
is_allowed Shared size = nat_le 2 size && nat_le size 16
is_allowed Torus size = size == 9 || size == 12 || size == 16
is_allowed Mesh size = size == 8
is_allowed Switch size = nat_le 2 size && nat_le size 16
is_allowed Boxes size = size == 8 || size == 12 || size == 16
is_allowed kind size = nat_le 1 size && nat_le size 16

-- of so many in a circle, the one comes right behind the other
abbrev pub are_next : ℕ → ℕ → ℕ → Bool
are_next count a b = b == (a + 1) % count || a == (b + 1) % count

-- a torus has 3 rows of 3 nodes, 3 rows of 4 or 4 rows of 4, and its nodes are numbered row by row
abbrev pub rows : ℕ → ℕ
rows size = if size == 16 then 4 else 3

abbrev pub columns : ℕ → ℕ
columns size = if size == 9 then 3 else 4

-- with so many rows and columns: the one node is next to the other in their row, or in their column
abbrev pub is_torus_link : ℕ → ℕ → ℕ × ℕ → Bool
is_torus_link rows columns link = link.0 / columns == link.1 / columns && are_next columns (link.0 % columns) (link.1 % columns) || link.0 % columns == link.1 % columns && are_next rows (link.0 / columns) (link.1 / columns)

-- the link stays in a box, or in a quad of a mesh, of four nodes each
abbrev pub is_inside : ℕ × ℕ → Bool
is_inside link = link.0 / 4 == link.1 / 4

-- the kind joins the nodes of the link, which is from the first to the second; a kind without a line here joins every two
abbrev pub is_family_link : FamilyKind → ℕ → ℕ × ℕ → Bool
is_family_link Line size link = link.1 == link.0 + 1 || link.0 == link.1 + 1
is_family_link Ring size link = are_next size link.0 link.1
is_family_link Cube size link = list_any (λ digit. bit_xor link.0 link.1 == digit) (1 ∷ 2 ∷ 4 ∷ 8 ∷ [])
is_family_link Torus size link = is_torus_link (rows size) (columns size) link
is_family_link Mesh size link = not (link.0 == link.1) && (is_inside link || link.0 % 4 == link.1 % 4)
is_family_link kind size link = not (link.0 == link.1)

-- the links of the family, ascending by the first node and then by the second
abbrev pub family_links : FamilyKind → ℕ → List (ℕ × ℕ)
family_links kind size = filter (is_family_link kind size) (map (λ k. (k / size, k % size)) (range_with_len 0 (size * size)))

-- a group of width 1
abbrev pub one_wide : List (ℕ × ℕ) → GroupValue
one_wide links = record { links = links; width = 1 }

-- a group of its own for each link
abbrev pub single : ℕ × ℕ → GroupValue
single link = one_wide (link ∷ [])

-- the links of width 2 of a mesh go round through all its nodes, in both directions: here those of the one direction
abbrev pub double_ring : List (ℕ × ℕ)
double_ring = (0, 4) ∷ (4, 7) ∷ (7, 6) ∷ (6, 5) ∷ (5, 1) ∷ (1, 2) ∷ (2, 3) ∷ (3, 0) ∷ []

-- a link of a mesh, in a group of its own
abbrev pub mesh_group : ℕ × ℕ → GroupValue
mesh_group link = record { links = link ∷ []; width = if list_any (same_pair link) double_ring || list_any (same_pair (turned link)) double_ring then 2 else 1 }

-- a port of a node: the links that have the node at this end, the first where they leave it and the second where they enter it
abbrev pub port : (ℕ × ℕ → ℕ) → List (ℕ × ℕ) → ℕ → GroupValue
port end links node = one_wide (filter (λ link. end link == node) links)

-- the cable from the one box to the other: all links from nodes of the one to nodes of the other
abbrev pub cable : List (ℕ × ℕ) → ℕ × ℕ → GroupValue
cable links boxes = one_wide (filter (λ link. link.0 / 4 == boxes.0 && link.1 / 4 == boxes.1) links)

-- the links of `Shared` share one group, those of a `Switch` the ports, and those between `Boxes` the cables
abbrev pub family_groups : FamilyKind → ℕ → List GroupValue
family_groups Shared size = one_wide (family_links Shared size) ∷ []
family_groups Mesh size = map mesh_group (family_links Mesh size)
family_groups Switch size = map (port (λ link. link.0) (family_links Switch size)) (range_with_len 0 size) ++ map (port (λ link. link.1) (family_links Switch size)) (range_with_len 0 size)
family_groups Boxes size = map single (filter is_inside (family_links Boxes size)) ++ map (cable (family_links Boxes size)) (family_links Complete (size / 4))
family_groups kind size = map single (family_links kind size)

-- the family's topology, of nodes n0, n1 and so on
abbrev pub family_of : FamilyKind → ℕ → NamedTopologyValue
family_of kind size = named_with (map (λ node. codes "n" ++ decimal node) (range_with_len 0 size)) (family_groups kind size) None

-- ---- names of parts of these, by which code and proofs go

-- the pairs of nodes, ascending by the first and then by the second
abbrev pub pairs : ℕ → List (ℕ × ℕ)
pairs size = map (λ k. (k / size, k % size)) (range_with_len 0 (size * size))

-- n0, n1 and so on
abbrev pub numbered_name : ℕ → List ℕ
numbered_name node = codes "n" ++ decimal node
