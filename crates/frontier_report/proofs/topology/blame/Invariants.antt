use Rattle.std.proofs.Common.{◌≡◌, ◌-◌, length, slice_get}
use Rattle.text_lines.specs.Text.{rows_of}
use Rattle.frontier_report.proofs.topology.blame.Given as goal

abbrev pub invariant-loop-lines : goal.invariant-loop-lines
invariant-loop-lines l = slice_get l.lines.place.rows (l.number - l.lines.place.number) ≡ slice_get (rows_of l.text) (l.number - 1)

abbrev pub decreases-loop-lines : goal.decreases-loop-lines
decreases-loop-lines l = length l.lines.place.rows
