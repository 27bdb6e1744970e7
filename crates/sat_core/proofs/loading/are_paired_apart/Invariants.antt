use Rattle.std.proofs.Common.{ℕ, ◌<◌, get_or, ◌≢◌}
use Rattle.cnf_formula.specs.Literals.{LitValue}
use Rattle.sat_core.proofs.loading.are_paired_apart.Given as goal

abbrev pub invariant-loop-place : goal.invariant-loop-place
invariant-loop-place l = (i j : ℕ) (d : LitValue) → i < j → j < l.place → get_or l.lits i d ≢ get_or l.lits j d
