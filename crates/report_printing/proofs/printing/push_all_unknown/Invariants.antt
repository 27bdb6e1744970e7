use Rattle.std.proofs.Common.{◌≡◌, ◌++◌, map, take}
use Rattle.text_lines.specs.Text.{text_of}
use Rattle.report_form.specs.Spelling.{unknown_words}
use Rattle.report_printing.proofs.printing.push_all_unknown.Given as goal

abbrev pub invariant-loop-x : goal.invariant-loop-x
invariant-loop-x l = l.out.items ≡ l.initial.out.items ++ text_of (map unknown_words (take l.x-index l.unknown))
