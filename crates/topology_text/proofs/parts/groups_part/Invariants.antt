use Rattle.std.proofs.Common.{◌≡◌, ◌+◌, ◌≤◌, length, codes}
use Rattle.text_lines.specs.Repeated.{lines_from}
use Rattle.topology_text.{specs.Reading.groups_at, proofs.Groups.next_group}
use Rattle.topology_text.proofs.parts.groups_part.Given as goal

abbrev pub invariant-loop-line : goal.invariant-loop-line
invariant-loop-line l = record {
  read : lines_from (codes "group ") (next_group l.names.keys) l.groups.items l.lines.place.number l.lines.place.rows ≡ groups_at l.names.keys l.initial.lines.place;
  text : l.lines.text ≡ l.text;
  number : l.lines.place.number ≡ l.initial.lines.place.number + length l.groups.items;
  few : length l.groups.items ≤ 256;
}

abbrev pub decreases-loop-line : goal.decreases-loop-line
decreases-loop-line l = length l.lines.place.rows
