use Rattle.std.proofs.Common.{◌≡◌, ◌++◌, map, take}
use Rattle.text_lines.specs.Text.{text_of}
use Rattle.run_rules.specs.Lines.{cut_words}
use Rattle.search_commands.proofs.bound_printing.push_cuts.Given as goal

abbrev pub invariant-loop-candidate : goal.invariant-loop-candidate
invariant-loop-candidate l = l.out.items ≡ l.initial.out.items ++ text_of (map (cut_words l.names) (take l.candidate-index l.cuts))
