use Rattle.std.proofs.Common.{◌≡◌, map, take}
use Rattle.serde_json.specs.View.{view}
use Rattle.json_reports.proofs.report_writing.list_json.Given as goal

abbrev pub invariant-loop-x : goal.invariant-loop-x
invariant-loop-x g l = map view l.values.items ≡ map (g.T.Listed.json l.names) (take l.x-index l.list)
