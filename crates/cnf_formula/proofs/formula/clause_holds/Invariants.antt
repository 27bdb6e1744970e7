use Rattle.std.{proofs.Common.{◌≡◌, drop}, specs.List.list_any}
use Rattle.cnf_formula.specs.Literals.{is_true}
use Rattle.cnf_formula.proofs.formula.clause_holds.Given as goal

abbrev pub invariant-loop-lit : goal.invariant-loop-lit
invariant-loop-lit l = list_any (is_true l.values) (drop l.lit-index l.lits) ≡ list_any (is_true l.values) l.lits
