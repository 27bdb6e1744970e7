use Rattle.std.proofs.Common.{◌≡◌, ◌-◌}
use Rattle.trail_core.specs.{Trails.lits_of, Search.{Implied, clauses_of}, Kept.{IsDue, IsKept, ShortTrue}}
use Rattle.trail_core.proofs.propagate.propagate_all.Given as goal

abbrev pub invariant-loop-at : goal.invariant-loop-at
invariant-loop-at l = record {
  kept : IsKept l.store l.lists l.trail l.at l.short;
  vars : l.trail.vars ≡ l.fn.trail.vars;
  limits : l.trail.limits ≡ l.fn.trail.limits;
  same : clauses_of l.store ≡ clauses_of l.fn.store;
  implied : Implied (clauses_of l.fn.store) (IsDue l.fn.trail.limits) l.fn.trail.steps l.trail.steps;
  short_true : ShortTrue l.store (lits_of l.trail.steps);
}

abbrev pub decreases-loop-at : goal.decreases-loop-at
decreases-loop-at l = l.trail.vars - l.at
