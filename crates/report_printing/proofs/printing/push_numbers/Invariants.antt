use Rattle.std.proofs.Common.{◌≡◌, ◌++◌, map, take, decimal}
use Rattle.text_lines.specs.Text.{fields}
use Rattle.report_printing.proofs.printing.push_numbers.Given as goal

abbrev pub invariant-loop-number : goal.invariant-loop-number
invariant-loop-number l = l.out.items ≡ l.initial.out.items ++ fields (map decimal (take l.number-index l.numbers))
