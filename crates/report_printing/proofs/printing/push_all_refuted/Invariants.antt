use Rattle.std.proofs.Common.{◌≡◌, ◌++◌, map, take}
use Rattle.text_lines.specs.Text.{text_of}
use Rattle.report_form.specs.Spelling.{refuted_words}
use Rattle.report_printing.proofs.printing.push_all_refuted.Given as goal

abbrev pub invariant-loop-x : goal.invariant-loop-x
invariant-loop-x l = l.out.items ≡ l.initial.out.items ++ text_of (map refuted_words (take l.x-index l.refuted))
