use Rattle.std.proofs.Common.{◌≡◌, pos, map, take}
use Rattle.ledger_rules.proofs.hints.widened.Given as goal

abbrev pub invariant-loop-number : goal.invariant-loop-number
invariant-loop-number l = l.hints.items ≡ map pos (take l.number-index l.numbers)
