use Rattle.std.proofs.Common.{◌≡◌, length, ap, arith}
use Rattle.sat_core.proofs.resting.divided.Goals as goal

pub loop-place-preserved : goal.loop-place-preserved
loop-place-preserved c = grind (arith, c.divide.ensures, c.loop-place.invariant, c.in_ok-divide.ensures.divided c.args.sleepers.now c.loop-place.invariant.divided)

pub returns-clause-divided : goal.returns-clause-divided
returns-clause-divided c =
    let end : length c.args.core.now.clauses ≡ c.loop-place.place = omega (arith, c.loop-place-test.false, c.loop-place.auto.place-end, c.len-place-end.ensures, c.requires.listed.ids_len) in
    rw (end, ap (λ x. x.clauses) c.in_ok-of_clauses.ensures) c.loop-place.invariant.divided
