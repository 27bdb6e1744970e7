use Rattle.std.specs.Prelude.{Contains, IfSome}
use Rattle.trail_core.specs.{Assigned.IsOpen, Meaning.trues}
use Rattle.sat_core.proofs.waking.rests.Given as goal

abbrev pub invariant-loop-lit : goal.invariant-loop-lit
invariant-loop-lit l = IfSome l.open (λ other. Contains l.lits other × IsOpen (trues l.core) other)
