use Rattle.std.{proofs.Common.{◌≡◌, ◌++◌}, specs.List.{flat_map, range_with_len}}
use Rattle.text_lines.specs.Text.{text_of}
use Rattle.topology_text.proofs.Printed.{chunk_lines}
use Rattle.topology_text.proofs.printing.push_pattern.Given as goal

abbrev pub invariant-loop-chunk : goal.invariant-loop-chunk
invariant-loop-chunk l = l.out.items ≡ l.initial.out.items ++ text_of (flat_map (chunk_lines l.names l.pattern) (range_with_len 0 l.chunk))
