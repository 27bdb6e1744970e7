-- How far a search goes, and what it may leave out. This project's own ranges.
use Rattle.std.specs.Prelude.{ℕ, ◌≤◌, false}
use Rattle.candidate_order.specs.declared.pruning.Pruning.{Pruning}

-- nothing is left out
abbrev pub unpruned : Pruning
unpruned = record { cuts = false; ordered = false }

-- the rounds beyond the steps, the steps, the chunk count, the conflicts for each candidate, and what may be left out
pub record LimitsValue : Type 0 where
  pub k : ℕ
  pub max_s : ℕ
  pub max_c : ℕ
  pub conflicts : ℕ
  pub pruning : Pruning

-- each limit is in its range
pub record IsLimits (l : LimitsValue) : Type 0 where
  pub k : l.k ≤ 8
  pub some_steps : 1 ≤ l.max_s
  pub steps : l.max_s ≤ 8
  pub some_chunks : 1 ≤ l.max_c
  pub chunks : l.max_c ≤ 16
  pub some_conflicts : 1 ≤ l.conflicts
  pub conflicts : l.conflicts ≤ 100000
