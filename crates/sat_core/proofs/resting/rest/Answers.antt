use Rattle.std.proofs.Common.{refl}
use Rattle.sat_core.proofs.{Readiness.ready_same, Divided.ready_divided}
use Rattle.sat_core.proofs.resting.rest.Goals as goal

pub returns-clause-ready : goal.returns-clause-ready
returns-clause-ready c = λ base lines r.
    let core = c.args.core.now in
    let awake = c.keep_reasons.new.self in
    let old = c.args.guide.now in
    let used = ready_same base lines core core old.awake awake old.sleepers r refl refl c.keep_reasons.ensures.names c.keep_reasons.ensures.formula c.keep_reasons.ensures.held in
    ready_divided base lines core c.in_ok-left.left awake c.in_ok-left.awake old.sleepers c.divided.new.sleepers used c.in_ok-left.ensures.divided c.in_ok-left.ensures.vars c.in_ok-left.ensures.formula c.in_ok-left.ensures.held
