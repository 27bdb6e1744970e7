use Rattle.std.proofs.Common.{ℕ, ◌-◌, ◌≤◌, length, map, Contains, vec_capacity}
use Rattle.sleeping_clauses.specs.{declared.sleepers.Led.Led, Sleeping.list_at}
use Rattle.sleeping_clauses.proofs.sleepers.reach.Given as goal

abbrev pub invariant-loop-alloc : goal.invariant-loop-alloc
invariant-loop-alloc l = record {
  room : l.count ≤ vec_capacity l.leads;
  long : length l.initial.leads.items ≤ length l.leads.items;
  kept : (other : ℕ) (x : Led) → Contains (list_at (map (λ v. v.items) l.initial.leads.items) other) x → Contains (list_at (map (λ v. v.items) l.leads.items) other) x;
}

abbrev pub decreases-loop-alloc : goal.decreases-loop-alloc
decreases-loop-alloc l = l.count - length l.leads.items
