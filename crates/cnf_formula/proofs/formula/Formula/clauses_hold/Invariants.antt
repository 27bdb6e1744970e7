use Rattle.std.{proofs.Common.{◌≡◌, drop}, specs.List.list_all}
use Rattle.cnf_formula.specs.Literals.{clause_holds}
use Rattle.cnf_formula.proofs.formula.Formula.clauses_hold.Given as goal

abbrev pub invariant-loop-place : goal.invariant-loop-place
invariant-loop-place l = list_all (clause_holds l.values) (drop l.place l.self.clauses) ≡ list_all (clause_holds l.values) l.self.clauses
