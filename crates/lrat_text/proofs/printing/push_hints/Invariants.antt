use Rattle.std.proofs.Common.{◌≡◌, ◌++◌, map, take}
use Rattle.lrat_text.specs.Printing.{hint_word, trailed}
use Rattle.lrat_text.proofs.printing.push_hints.Given as goal

abbrev pub invariant-loop-hint : goal.invariant-loop-hint
invariant-loop-hint l = l.out.items ≡ l.initial.out.items ++ trailed (map hint_word (take l.hint-index l.hints))
