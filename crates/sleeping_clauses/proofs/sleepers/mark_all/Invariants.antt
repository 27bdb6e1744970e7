use Rattle.std.proofs.Common.{◌≡◌, length, take, Contains}
use Rattle.cnf_formula.specs.Literals.{LitValue}
use Rattle.sleeping_clauses.specs.Sleeping.{HasMark}
use Rattle.sleeping_clauses.proofs.sleepers.mark_all.Given as goal

abbrev pub invariant-loop-lit : goal.invariant-loop-lit
invariant-loop-lit l = record {
  len : length l.marks.items ≡ length l.initial.marks.items;
  marked : (o : LitValue) → Contains (take l.lit-index l.lits) o → HasMark l.marks.items l.stamp o;
}
