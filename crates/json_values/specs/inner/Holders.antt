-- Who holds the chunks of a pattern, as JSON.
use Rattle.std.specs.{Prelude.{ℕ, List, map}, List.{filter, range_with_len}}
use Rattle.schedule.specs.Placed.{PlacementValue, holds}
use Rattle.topology_text.specs.Spelling.{name_at}
use Rattle.serde_json.specs.Data.{Data}
use Rattle.json_values.specs.Forms.{each, name, via}

-- the nodes that hold the chunk, ascending
abbrev pub held : PlacementValue → ℕ → List ℕ
held p g = filter (λ node. holds p (g, node)) (range_with_len 0 p.nodes)

abbrev pub holders_json : List (List ℕ) → List ℕ → Data
holders_json names = (each (via (name_at names) name)).json

-- for each chunk who holds it
abbrev pub placement_json : List (List ℕ) → ℕ → PlacementValue → Data
placement_json names base p = (each (each (via (name_at names) name))).json (map (held p) (range_with_len 0 base))
