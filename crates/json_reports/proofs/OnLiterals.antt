-- What computes on literals: the reading of the JSON of a report, and its printing.
use Rattle.std.specs.Prelude.{⊤}
use Rattle.report_form.specs.{Reading.{report_of, body_of, frontier_at}, Points.{frontier_point_at, joined_point_at, schedule_at}}
use Rattle.json_values.proofs.OnLiterals.{topology_json_on_literals}

unfoldable pub report_json_on_literals : ⊤
unfolding topology_json_on_literals report_of body_of frontier_at frontier_point_at joined_point_at schedule_at
report_json_on_literals = tt
