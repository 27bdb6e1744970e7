use Rattle.std.{proofs.Common.{◌≡◌, map}, specs.List.{filter, range_with_len}}
use Rattle.schedule.specs.Placed.{holds}
use Rattle.serde_json.specs.{Data.string, View.view}
use Rattle.topology_text.specs.Spelling.{name_at}
use Rattle.json_values.proofs.topology_printing.holders_json.Given as goal

abbrev pub invariant-loop-node : goal.invariant-loop-node
invariant-loop-node l = map view l.list.items ≡ map (λ node. string (name_at l.names node)) (filter (λ node. holds l.held (l.chunk, node)) (range_with_len 0 l.node))
