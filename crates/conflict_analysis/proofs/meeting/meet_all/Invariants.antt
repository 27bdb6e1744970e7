use Rattle.std.proofs.Common.{[], get_or, take}
use Rattle.conflict_analysis.specs.Met.{value_of, HasMet}
use Rattle.conflict_analysis.proofs.meeting.meet_all.Given as goal

abbrev pub invariant-loop-lit : goal.invariant-loop-lit
invariant-loop-lit l = HasMet l.core (take l.lit-index (get_or l.core.clauses l.fn.id [])) (value_of l.initial.walk) (value_of l.walk)
