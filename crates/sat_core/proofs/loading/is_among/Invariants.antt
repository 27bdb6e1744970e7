use Rattle.std.proofs.Common.{take, Contains}
use Rattle.sat_core.proofs.loading.is_among.Given as goal

abbrev pub invariant-loop-other : goal.invariant-loop-other
invariant-loop-other l = Contains (take l.other-index l.lits) l.lit → ⊥
