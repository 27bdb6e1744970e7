-- Small topologies, and their JSON with one place left open.
use Rattle.std.specs.Prelude.{ℕ, List, [], ◌∷◌, ◌++◌, Some, codes}
use Rattle.schedule.specs.Rows.{only}
use Rattle.topology_text.specs.Value.{NamedTopologyValue, named_with}

-- three nodes in a row, and a chunk that is to go from the first to the last
abbrev pub moved : NamedTopologyValue
moved = named_with (codes "a" ∷ codes "b" ∷ codes "c" ∷ []) (only 0 1 1 ∷ only 1 2 1 ∷ [])
    (Some (record { base = 1; before = record { chunks = 1; nodes = 3; pairs = (0, 0) ∷ [] }; after = record { chunks = 1; nodes = 3; pairs = (0, 2) ∷ [] } }))

-- two nodes in a row, with the width of the first link
abbrev pub two_nodes_json : List ℕ → List ℕ
two_nodes_json width = codes "{\"groups\":[{\"links\":[[\"n0\",\"n1\"]],\"width\":" ++ (width ++ codes "},{\"links\":[[\"n1\",\"n0\"]],\"width\":1}],\"nodes\":[\"n0\",\"n1\"],\"version\":1}\n")

-- the moved chunk, with who holds it before
abbrev pub moved_json : List ℕ → List ℕ
moved_json before =
    codes "{\"custom\":{\"after\":[[\"c\"]],\"before\":[[" ++ (before ++ codes "]]},\"groups\":[{\"links\":[[\"a\",\"b\"]],\"width\":1},{\"links\":[[\"b\",\"c\"]],\"width\":1}],\"nodes\":[\"a\",\"b\",\"c\"],\"version\":2}\n")
