use Rattle.std.proofs.Common.{◌≡◌, ◌+◌, ◌-◌, ◌≤◌, length}
use Rattle.text_lines.specs.Repeated.{parts_at, parts_from}
use Rattle.frontier_report.proofs.repeats.repeated.Given as goal

abbrev pub invariant-loop-lines : goal.invariant-loop-lines
invariant-loop-lines g l =
    let part_at = g.R.Repeats.part_at l.reader in
    let start = l.initial.lines in
    record {
      read : parts_from l.word part_at (length start.place.rows - length l.items.items) l.items.items l.lines.place ≡ parts_at l.word part_at start.place;
      text : l.lines.text ≡ start.text;
      number : l.lines.place.number + length l.lines.place.rows ≤ start.place.number + length start.place.rows;
      fewer : length l.items.items + length l.lines.place.rows ≤ length start.place.rows;
    }

abbrev pub decreases-loop-lines : goal.decreases-loop-lines
decreases-loop-lines g l = length l.lines.place.rows
