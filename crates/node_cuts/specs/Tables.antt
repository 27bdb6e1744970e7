-- What has to come into each set of nodes at the least chunk count, and what can: what is said at every other count is made of these. This project's own.
use Rattle.std.specs.Prelude.{◌≡◌, ℕ, ◌*◌, ◌<◌, ◌≤◌, false, List, length, map, slice_index_or, All}
use Rattle.schedule.specs.{Links.TopologyValue, Placed.PlacementValue}
use Rattle.collective_spec.specs.{declared.spec.Spec.Spec, Collectives.{kind_in, spec_instance}}
use Rattle.node_cuts.specs.{declared.{sets.Sets.Sets, measure.Measure.Measure, floor.Floor.Floor}, Sides.{NodeSet, mask_of, node_sets}, Cuts.{CutValue, cover_by, need_of, width_by}, Floors.{floor_of, least_count}}

-- the sets that are looked at, a topology, a chunk count, what has to come into each set and what can, and the floor
pub record TableValue : Type 0 where
  pub sets : Sets
  pub topology : TopologyValue
  pub least : ℕ
  pub measures : List Measure
  pub floor : Floor

-- what has to come into a set, and what can in one round
abbrev pub measure_of : Sets → TopologyValue → PlacementValue → PlacementValue → NodeSet → Measure
measure_of sets t pre post u = record { need = need_of u pre post; width = width_by sets u t }

-- the table of a collective at its least chunk count
abbrev pub table_of : Sets → TopologyValue → Spec → TableValue
table_of sets t spec =
    let least = least_count (kind_in spec) t.nodes in
    let i = spec_instance spec t.nodes least in
    record { sets = sets; topology = t; least = least; measures = map (measure_of sets t i.pre i.post) (node_sets sets t.nodes); floor = floor_of sets t spec }

abbrev pub IsTableOf : Sets → TopologyValue → Spec → TableValue → Type 0
IsTableOf sets t spec table = table ≡ table_of sets t spec

-- the ranges of what has to come into a set and what can
pub record IsSmall (measure : Measure) : Type 0 where
  pub few : measure.need < 65536
  pub narrow : measure.width ≤ 4096

-- the ranges of a fraction of these
pub record IsLow (f : Floor) : Type 0 where
  pub above : f.above < 65536
  pub below : f.below ≤ 65536

-- there is a chunk count and a measure for each set, and each measure and the floor are in range
pub record IsTable (table : TableValue) : Type 0 where
  pub some : 0 < table.least
  pub each : length table.measures ≡ length (node_sets table.sets table.topology.nodes)
  pub small : All IsSmall table.measures
  pub low : IsLow table.floor

abbrev pub no_measure : Measure
no_measure = record { need = 0; width = 0 }

-- the cut of the set at a place of the table, into which so many times as much has to come
abbrev pub cut_at : TableValue → ℕ → ℕ → CutValue
cut_at table place times =
    let u = slice_index_or (node_sets table.sets table.topology.nodes) place (λ node. false) in
    let measure = slice_index_or table.measures place no_measure in
    record { nodes = mask_of table.topology.nodes u; groups = cover_by table.sets u table.topology; need = measure.need * times; width = measure.width }
