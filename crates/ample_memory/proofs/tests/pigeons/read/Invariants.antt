use Rattle.std.proofs.Common.{◌≡◌, All}
use Rattle.cnf_formula.specs.Formulas.{IsAbout}
use Rattle.ample_memory.proofs.tests.pigeons.read.Given as goal

abbrev pub invariant-loop-number : goal.invariant-loop-number
invariant-loop-number l = record {
  vars : l.formula.vars ≡ l.vars;
  lits : All (IsAbout l.vars) l.lits.items;
}
