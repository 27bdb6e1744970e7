use Rattle.std.{proofs.Common.{◌≡◌, map}, specs.List.range_with_len}
use Rattle.serde_json.specs.View.{view}
use Rattle.json_rules.specs.ProgramsJson.{node_json}
use Rattle.json_programs.proofs.programs.nodes_json.Given as goal

abbrev pub invariant-loop-node : goal.invariant-loop-node
invariant-loop-node l = map view l.values.items ≡ map (node_json l.names l.programs) (range_with_len 0 l.node)
