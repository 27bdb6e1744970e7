use Rattle.std.proofs.Common.{take, map, Contains}
use Rattle.cnf_formula.specs.Literals.{LitValue, code_of}
use Rattle.sleeping_clauses.specs.{declared.sleepers.Led.Led, Sleeping.{IsCover, list_at}}
use Rattle.sleeping_clauses.proofs.sleepers.first_marked.Given as goal

abbrev pub invariant-loop-lit : goal.invariant-loop-lit
invariant-loop-lit l = (o : LitValue) (led : Led) → Contains (take l.lit-index l.lits) o → Contains (list_at (map (λ v. v.items) l.leads) (code_of o)) led → IsCover l.clauses l.asleep l.marks l.stamp led → ⊥
