use Rattle.std.proofs.Common.{◌≡◌, ◌≤◌, length, All}
use Rattle.cnf_formula.specs.Formulas.{IsClause}
use Rattle.sat_core.specs.inner.Dividing.{IsDividing}
use Rattle.sleeping_clauses.specs.Sleeping.{AreFew}
use Rattle.sat_core.proofs.resting.divided.Given as goal

abbrev pub invariant-loop-place : goal.invariant-loop-place
invariant-loop-place l = record {
  within : All (IsClause l.core.vars) l.left;
  fewer : length l.left ≤ l.place;
  same : l.sleepers.vars ≡ l.initial.sleepers.vars;
  few : AreFew l.sleepers;
  formula : l.named.formula ≡ l.awake.formula;
  held : l.named.held ≡ l.awake.held;
  divided : IsDividing l.core.clauses l.awake.names.items l.awake.formula l.initial.sleepers l.place l.left l.named l.sleepers;
}
