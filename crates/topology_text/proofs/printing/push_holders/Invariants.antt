use Rattle.std.{proofs.Common.{◌≡◌, ◌++◌, map}, specs.List.{filter, range_with_len}}
use Rattle.text_lines.specs.Text.{fields}
use Rattle.schedule.specs.Placed.{holds}
use Rattle.topology_text.specs.Spelling.{name_at}
use Rattle.topology_text.proofs.printing.push_holders.Given as goal

abbrev pub invariant-loop-node : goal.invariant-loop-node
invariant-loop-node l = l.out.items ≡ l.initial.out.items ++ fields (map (name_at l.names) (filter (λ node. holds l.held (l.chunk, node)) (range_with_len 0 l.node)))
