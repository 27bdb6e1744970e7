use Rattle.std.proofs.Common.{take}
use Rattle.sat_core.proofs.Jumping.{IsHighest}
use Rattle.sat_core.proofs.backjump.highest.Given as goal

abbrev pub invariant-loop-lit : goal.invariant-loop-lit
invariant-loop-lit l = IsHighest l.core (take l.lit-index l.lits) l.top
