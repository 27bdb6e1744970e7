use Rattle.std.proofs.Common.{◌≡◌, ◌+◌, ◌≤◌, drop, length}
use Rattle.report_form.specs.Reading.{frontiers_from}
use Rattle.frontier_report.proofs.FrontierTurns.{behind_frontiers}
use Rattle.frontier_report.proofs.frontiers.frontiers_of.Given as goal

abbrev pub invariant-loop-part : goal.invariant-loop-part
invariant-loop-part l = record {
  read : behind_frontiers l.frontiers.items (frontiers_from l.words l.topology (drop l.part-index l.parts) l.lines.place) ≡ frontiers_from l.words l.topology l.parts l.initial.lines.place;
  text : l.lines.text ≡ l.initial.lines.text;
  number : l.lines.place.number + length l.lines.place.rows ≤ l.initial.lines.place.number + length l.initial.lines.place.rows;
}
