use Rattle.std.proofs.Common.{ℕ, ◌<◌, ◌≤◌}
use Rattle.cnf_formula.specs.Literals.{no}
use Rattle.trail_core.specs.{Assigned.IsOpen, Meaning.trues}
use Rattle.decision_order.proofs.deciding.an_open.Given as goal

abbrev pub invariant-loop-index : goal.invariant-loop-index
invariant-loop-index l = (v : ℕ) → 0 < v → v ≤ l.index → IsOpen (trues l.core) (no v) → ⊥
