use Rattle.conflict_analysis.{specs.Met.value_of, proofs.Waiting.{waits_below}}
use Rattle.conflict_analysis.proofs.meeting.waiting_below.Goals as goal

pub met_below-place-requires : goal.met_below-place-requires
met_below-place-requires c = waits_below c.args.core.now c.args.mark (value_of c.args.walk.now) c.loop-from.place c.requires.sorted c.loop-from.invariant.passed c.requires.some
