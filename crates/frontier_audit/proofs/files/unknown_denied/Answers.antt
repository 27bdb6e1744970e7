use Rattle.std.proofs.Common.{sym, subst}
use Rattle.candidate_order.specs.Frontiers.{IsUnknown}
use Rattle.frontier_audit.proofs.{Merging.{walk_ends, walk_on, walk_starts, walk_stops}, Said.separate_unknown}
use Rattle.frontier_audit.proofs.files.unknown_denied.Goals as goal

pub loop-given_up-init : goal.loop-given_up-init
loop-given_up-init g c = walk_starts _ _ _ _ _

pub log_denied-requires : goal.log_denied-requires
log_denied-requires g c = subst (IsUnknown c.args.asked.now) (sym c.given_up-item.is) (c.requires.within c.loop-given_up.given_up-index c.given_up-item.result c.loop-given_up-test.true)

pub returns-in-Some-clause-beside : goal.returns-in-Some-clause-beside
returns-in-Some-clause-beside g c =
    walk_stops c.loop-given_up.invariant c.given_up-item.result c.loop-given_up-test.true c.given_up-item.is c.in_ok-denial.ensures.told c.in_ok-denial.ensures.beside c.in-Some.denial c.in-Some.is

pub loop-given_up-preserved : goal.loop-given_up-preserved
loop-given_up-preserved g c =
    walk_on c.loop-given_up.invariant c.given_up-item.result c.loop-given_up-test.true c.given_up-item.is c.in_ok-denial.ensures.told c.in_ok-denial.ensures.beside
    (separate_unknown c.args.part c.args.asked.now c.args.unknown.now c.requires.ascending) c.in_ok-denial.ensures.stay (c.in_ok-denial.ensures.cause.stays (λ failed. absurd cc)) c.in_default.is

pub returns-clause-beside : goal.returns-clause-beside
returns-clause-beside g c = walk_ends c.loop-given_up.invariant c.loop-given_up-test.false
