use Rattle.std.proofs.Common.{◌≡◌, ◌⊎◌, ℕ, ◌<◌, ◌≤◌, length, get_or}
use Rattle.cnf_formula.specs.{Literals.code_of, Formulas.IsAbout}
use Rattle.trail_core.specs.{Assigned.IsFalse, Trails.lits_of, Watching.{watch_count, row_at, list_at}, Search.{CanScan, Scanned, IsSatisfied}}
use Rattle.trail_core.proofs.propagate.scan.Given as goal

abbrev pub invariant-loop-place : goal.invariant-loop-place
invariant-loop-place l = record {
  can : CanScan l.store l.lists l.trail;
  scanned : Scanned l.falsified l.initial.store l.initial.trail l.store l.trail;
  of : IsAbout l.trail.vars l.falsified;
  is_false : IsFalse (lits_of l.trail.steps) l.falsified;
  long : l.place ≤ length (list_at l.lists.lists (code_of l.falsified));
  done : (e : ℕ) → 0 < watch_count (row_at l.store e) (code_of l.falsified) → IsSatisfied (lits_of l.trail.steps) (row_at l.store e).lits ⊎ ((j : ℕ) × (j < l.place) × (get_or (list_at l.lists.lists (code_of l.falsified)) j 0 ≡ e));
}

abbrev pub decreases-loop-place : goal.decreases-loop-place
decreases-loop-place l = l.place
