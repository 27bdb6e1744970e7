use Rattle.std.proofs.Common.{◌≡◌, ◌++◌, map, take}
use Rattle.text_lines.specs.Text.{text_of}
use Rattle.topology_text.specs.Spelling.{group_words}
use Rattle.topology_text.proofs.printing.push_groups.Given as goal

abbrev pub invariant-loop-group : goal.invariant-loop-group
invariant-loop-group l = l.out.items ≡ l.initial.out.items ++ text_of (map (group_words l.names) (take l.group-index l.groups))
