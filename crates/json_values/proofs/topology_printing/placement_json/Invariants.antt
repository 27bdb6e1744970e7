use Rattle.std.{proofs.Common.{◌≡◌, map}, specs.List.range_with_len}
use Rattle.serde_json.specs.View.{view}
use Rattle.json_values.specs.inner.Holders.{held, holders_json}
use Rattle.json_values.proofs.topology_printing.placement_json.Given as goal

abbrev pub invariant-loop-chunk : goal.invariant-loop-chunk
invariant-loop-chunk l = map view l.list.items ≡ map (holders_json l.names) (map (held l.held) (range_with_len 0 l.chunk))
