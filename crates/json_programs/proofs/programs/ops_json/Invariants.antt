use Rattle.std.proofs.Common.{◌≡◌, map, take}
use Rattle.serde_json.specs.View.{view}
use Rattle.json_rules.specs.ProgramsJson.{op_json}
use Rattle.json_programs.proofs.programs.ops_json.Given as goal

abbrev pub invariant-loop-op : goal.invariant-loop-op
invariant-loop-op l = map view l.values.items ≡ map (op_json l.names) (take l.op-index l.ops)
