use Rattle.std.proofs.Common.{length, ap, arith}
use Rattle.trail_core.proofs.Keeping.{lits_length}
use Rattle.conflict_analysis.proofs.meeting.is_waiting.Goals as goal

pub bounds-trail-place : goal.bounds-trail-place
bounds-trail-place c = omega (arith, c.requires.place, ap length c.trail.ensures.value, lits_length c.args.core.now.trail)
