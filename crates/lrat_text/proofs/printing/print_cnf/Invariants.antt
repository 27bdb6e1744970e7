use Rattle.std.proofs.Common.{◌≡◌, ◌++◌, map, take}
use Rattle.text_lines.specs.Text.{text_of}
use Rattle.lrat_text.specs.Printing.{literal_word, closed}
use Rattle.lrat_text.proofs.printing.print_cnf.Given as goal

abbrev pub invariant-loop-place : goal.invariant-loop-place
invariant-loop-place l = l.out.items ≡ l.initial.out.items ++ text_of (map (λ clause. closed (map literal_word clause)) (take l.place l.formula.clauses))
