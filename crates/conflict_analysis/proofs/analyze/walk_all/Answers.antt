use Rattle.std.proofs.Common.{arith}
use Rattle.conflict_analysis.{specs.Met.value_of, proofs.{Pointed.passed_middle, Waiting.walked_then}}
use Rattle.conflict_analysis.proofs.analyze.walk_all.Goals as goal

pub walk_middle-requires-clause-passed : goal.walk_middle-requires-clause-passed
walk_middle-requires-clause-passed c =
    let last = c.in_ok-place.ensures.walked in
    passed_middle c.args.core.now (value_of c.walk_last.new.walk) c.point_below-point.result c.in_ok-place.place c.requires.formed last.sorted c.point_below-point.ensures last.passed

pub returns-clause-walked : goal.returns-clause-walked
returns-clause-walked c = grind (arith, walked_then)
