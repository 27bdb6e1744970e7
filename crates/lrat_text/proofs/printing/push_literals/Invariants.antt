use Rattle.std.proofs.Common.{◌≡◌, ◌++◌, map, take}
use Rattle.lrat_text.specs.Printing.{literal_word, trailed}
use Rattle.lrat_text.proofs.printing.push_literals.Given as goal

abbrev pub invariant-loop-lit : goal.invariant-loop-lit
invariant-loop-lit l = l.out.items ≡ l.initial.out.items ++ trailed (map literal_word (take l.lit-index l.lits))
