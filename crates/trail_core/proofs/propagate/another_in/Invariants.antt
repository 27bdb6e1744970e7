use Rattle.std.proofs.Common.{◌≡◌, ◌⊎◌, ℕ, ◌<◌, ◌≤◌, get_or}
use Rattle.cnf_formula.specs.Literals.{LitValue}
use Rattle.trail_core.specs.{Assigned.IsFalse, Trails.lits_of}
use Rattle.trail_core.proofs.propagate.another_in.Given as goal

abbrev pub invariant-loop-place : goal.invariant-loop-place
invariant-loop-place l = (k : ℕ) (d : LitValue) → l.from ≤ k → k < l.place → (get_or l.clause k d ≡ l.this) ⊎ IsFalse (lits_of l.trail.steps) (get_or l.clause k d)
