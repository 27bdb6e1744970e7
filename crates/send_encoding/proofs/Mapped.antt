-- The links of a topology make a map of arrivals and sends.
use Rattle.std.{proofs.{Common.{◌≡◌, ℕ, ◌+◌, ◌*◌, ◌<◌, ◌≤◌, List, map, length, arith, All}, lemmas.{List.{Elements.All-filter, FromFn.length-map-range_with_len}, Nat.mul-le}}, specs.List.range_with_len}
use Rattle.list_laws.proofs.Tests.{few_kept}
use Rattle.schedule.{specs.{Links.{TopologyValue, IsTopology, is_usable, usable_links}, Placed.{PlacementValue, all_pairs, empty_placement}}, proofs.Placing.all_below}
use Rattle.send_encoding.{specs.{Variables.{map_of, IsSendMap, arrivals, sends}, Moving.JoinsNodes}, proofs.{Everywhere.by_recursion, Grid.rows_length}}

pub links_join : (t : TopologyValue) (pre : PlacementValue) (steps : ℕ) → All (JoinsNodes (map_of t pre steps)) (usable_links t)
links_join t pre steps = All-filter (is_usable t) (JoinsNodes (map_of t pre steps)) (all_pairs t.nodes t.nodes) (by_recursion (JoinsNodes (map_of t pre steps)) (all_pairs t.nodes t.nodes) (all_below t.nodes t.nodes))

pub few_usable : (t : TopologyValue) → IsTopology t → length (usable_links t) ≤ 256
few_usable t ok =
    let all : length (all_pairs t.nodes t.nodes) ≡ t.nodes * t.nodes = rows_length (λ c. map (λ n. (c, n)) (range_with_len 0 t.nodes)) t.nodes 0 t.nodes (λ c. length-map-range_with_len (λ n. (c, n)) 0 t.nodes) in
    omega (arith, few_kept (is_usable t) (all_pairs t.nodes t.nodes), all, mul-le t.nodes t.nodes 16 16 ok.few ok.few)

pub links_make_map : (t : TopologyValue) (chunks steps : ℕ) (links : List (ℕ × ℕ)) → IsTopology t → links ≡ usable_links t
    → arrivals (record { chunks = chunks; nodes = t.nodes; links = usable_links t; steps = steps }) + sends (record { chunks = chunks; nodes = t.nodes; links = usable_links t; steps = steps }) < 2097152 → steps ≤ 255
    → IsSendMap (record { chunks = chunks; nodes = t.nodes; links = usable_links t; steps = steps })
links_make_map t chunks steps links ok is few short =
    record {
      links = λ k d h. let at = links_join t (empty_placement 0 t.nodes) steps k d h in record { from = at.0; to = at.1 };
      many = few_usable t ok;
      few = few;
      short = short;
    }
