use Rattle.std.proofs.Common.{◌≡◌, ◌++◌, map, take}
use Rattle.text_lines.specs.Text.{text_of}
use Rattle.run_rules.specs.Lines.{carried_words}
use Rattle.degraded_search.proofs.printing.push_all_carried.Given as goal

abbrev pub invariant-loop-x : goal.invariant-loop-x
invariant-loop-x l = l.out.items ≡ l.initial.out.items ++ text_of (map carried_words (take l.x-index l.carried))
