use Rattle.std.proofs.Common.{◌≡◌, ◌-◌, ◌+◌, ◌*◌, []}
use Rattle.topology_text.specs.Reading.{holders_at}
use Rattle.topology_text.proofs.pattern.pairs_part.Given as goal

abbrev pub invariant-loop-chunk : goal.invariant-loop-chunk
invariant-loop-chunk l = record {
  read : holders_at l.names.keys (l.base - l.chunk) l.chunk (record { before = l.before.items; after = l.after.items }) l.lines.place ≡ holders_at l.names.keys l.base 0 (record { before = []; after = [] }) l.initial.lines.place;
  text : l.lines.text ≡ l.initial.lines.text;
  number : l.lines.place.number ≡ l.initial.lines.place.number + 2 * l.chunk;
}
