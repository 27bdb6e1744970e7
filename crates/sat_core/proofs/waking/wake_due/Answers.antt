use Rattle.std.proofs.{Common.{arith, refl}, lemmas.List.take-map}
use Rattle.sat_core.proofs.Readiness.{ready_same}
use Rattle.sat_core.proofs.waking.wake_due.Goals as goal

pub returns-in_ok-wake-in-Some-clause-ready : goal.returns-in_ok-wake-in-Some-clause-ready
returns-in_ok-wake-in-Some-clause-ready c = λ _ base lines r.
    c.in_ok-wake-in-Some.ensures.ready base lines (ready_same base lines c.args.core.now c.go_to_bottom.new.core c.args.awake.now c.args.awake.now c.args.sleepers.now r c.go_to_bottom.ensures.vars c.go_to_bottom.ensures.clauses refl refl refl)

pub returns-in-None-clause-rest : goal.returns-in-None-clause-rest
returns-in-None-clause-rest c = grind (arith, take-map)
