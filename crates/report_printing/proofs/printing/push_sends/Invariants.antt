use Rattle.std.proofs.Common.{◌≡◌, ◌++◌, map, take}
use Rattle.text_lines.specs.Text.{text_of}
use Rattle.report_form.specs.Spelling.{send_words}
use Rattle.report_printing.proofs.printing.push_sends.Given as goal

abbrev pub invariant-loop-hop : goal.invariant-loop-hop
invariant-loop-hop l = l.out.items ≡ l.initial.out.items ++ text_of (map (send_words l.names) (take l.hop-index l.sends))
