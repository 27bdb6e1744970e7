use Rattle.std.proofs.Common.{◌≡◌, ℕ, ◌<◌, [], get_or}
use Rattle.trail_core.specs.{Trails.lits_of, Watching.{row_at, AreRows}, Search.{IsSatisfied, Implied, clauses_of}, Kept.IsDue}
use Rattle.trail_core.proofs.propagate.settle_all.Given as goal

abbrev pub invariant-loop-id : goal.invariant-loop-id
invariant-loop-id l = record {
  are_rows : AreRows l.trail.vars l.store;
  vars : l.trail.vars ≡ l.initial.trail.vars;
  limits : l.trail.limits ≡ l.initial.trail.limits;
  bottom : l.trail.limits ≡ [];
  implied : Implied (clauses_of l.store) (IsDue []) l.initial.trail.steps l.trail.steps;
  settled : (k : ℕ) → k < l.id-index → IsSatisfied (lits_of l.trail.steps) (row_at l.store (get_or l.short k 0)).lits;
}
