use Rattle.std.proofs.Common.{take}
use Rattle.sat_core.specs.inner.Stating.{AreStated}
use Rattle.sat_core.proofs.stating.stated_by.Given as goal

abbrev pub invariant-loop-place : goal.invariant-loop-place
invariant-loop-place l = AreStated (take l.place l.core.clauses) l.stated.items
