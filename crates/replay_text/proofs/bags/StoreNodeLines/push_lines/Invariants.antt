use Rattle.std.{proofs.Common.{◌≡◌, ◌++◌, map}, specs.List.range_with_len}
use Rattle.text_lines.specs.Text.{text_of}
use Rattle.replay_text.specs.inner.Appended.{keeper_words}
use Rattle.replay_text.proofs.bags.StoreNodeLines.push_lines.Given as goal

abbrev pub invariant-loop-node : goal.invariant-loop-node
invariant-loop-node l = l.out.items ≡ l.initial.out.items ++ text_of (map (keeper_words l.names l.self) (range_with_len 0 l.node))
