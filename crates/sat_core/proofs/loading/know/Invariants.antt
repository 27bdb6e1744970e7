use Rattle.std.proofs.Common.{ℕ, ◌<◌, length, get_or}
use Rattle.cnf_formula.specs.Literals.{LitValue, IsLit}
use Rattle.sat_core.proofs.loading.know.Given as goal

abbrev pub invariant-loop-lit : goal.invariant-loop-lit
invariant-loop-lit l = (k : ℕ) (d : LitValue) → k < l.lit-index → k < length l.lits → IsLit (get_or l.lits k d)
