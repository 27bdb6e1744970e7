use Rattle.std.proofs.Common.{◌≡◌, pos, map, take}
use Rattle.ledger_rules.proofs.hints.narrowed.Given as goal

abbrev pub invariant-loop-hint : goal.invariant-loop-hint
invariant-loop-hint l = map pos l.numbers.items ≡ take l.hint-index l.hints
