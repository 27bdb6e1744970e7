use Rattle.std.proofs.Common.{◌≡◌, map, take}
use Rattle.sleeping_clauses.specs.Naming.{name}
use Rattle.sleeping_clauses.proofs.awake.renamed.Given as goal

abbrev pub invariant-loop-hint : goal.invariant-loop-hint
invariant-loop-hint l = l.named.items ≡ map (name l.names) (take l.hint-index l.hints)
