use Rattle.std.proofs.Common.{◌-◌, arith}
use Rattle.conflict_analysis.{specs.Met.value_of, proofs.{Resolved.walked_on, Waiting.{open_step}}}
use Rattle.conflict_analysis.proofs.analyze.walk_last.Goals as goal

pub resolve-requires-clause-step : goal.resolve-requires-clause-step
resolve-requires-clause-step c = open_step c.args.core.now (value_of c.loop-walk.walk) c.waiting_below-place.result c.trail-place.ensures.formed c.trail-place.ensures.grounded c.loop-walk.invariant.walked.sorted c.loop-walk-test.true c.waiting_below-place.ensures.next

pub loop-walk-preserved : goal.loop-walk-preserved
loop-walk-preserved c =
    let w = value_of c.loop-walk.walk in
    let walked = c.loop-walk.invariant.walked in
    record {
      some = omega (arith, c.in_ok-resolve.ensures.met.more, c.loop-walk-test.true);
      walked = walked_on c.args.core.now (value_of c.args.walk.now) w (value_of c.resolve.new.walk) (w.open_ - 1) w.zeros c.waiting_below-place.result c.in_ok-resolve.ensures 1 (λ h. omega (arith, h)) walked.onward c.waiting_below-place.ensures.next.passed;
    }
