use Rattle.std.proofs.{lemmas.{Bool.Decides.nat_tests, Grind.common_steps, Option.slice_get_past}, Common.{arith, [], ◌∷◌, sym, subst}}
use Rattle.allreduce_join.specs.Joins.{IsJoinable, pairs_of}
use Rattle.frontier_audit.{specs.inner.Steps.JoinsSay, proofs.Pairing.{got_at, none_say, no_surplus, pairs_add, pairs_one, stopped, surplus, walk_ends, walk_goes, walk_stops}}
use Rattle.frontier_audit.proofs.joins.pairs_denied.Goals as goal

pub loop-first-init : goal.loop-first-init
loop-first-init c = none_say c.args.topology.now c.args.joined.now 0

pub gathered_denied-requires-clause-first : goal.gathered_denied-requires-clause-first
gathered_denied-requires-clause-first c = subst IsJoinable (sym c.first-item.is) (c.requires.reduce c.loop-first.first-index c.first-item.result c.loop-first-test.true)

pub returns-in-Some : goal.returns-in-Some
returns-in-Some c =
    let l = c.loop-first in
    let t = c.args.topology.now in
    let gather = c.args.gather.now in
    let said = subst (λ ps. JoinsSay t ps c.args.joined.now l.place c.gathered_denied.new.place c.in_ok-denial.field-0) (sym (pairs_one c.first-item.result gather)) c.in_ok-denial.ensures in
    stopped t (pairs_of c.args.reduce.now gather) c.args.joined.now c.gathered_denied.new.place c.in-Some.denial
    (walk_stops t c.args.joined.now (λ xs. pairs_of xs gather) (pairs_add gather) c.args.reduce.now l.first-index c.first-item.result c.loop-first-test.true c.first-item.is 0 l.place c.gathered_denied.new.place l.invariant c.in-Some.denial
    (subst (JoinsSay t (pairs_of (c.first-item.result ∷ []) gather) c.args.joined.now l.place c.gathered_denied.new.place) c.in-Some.is said))

pub loop-first-preserved : goal.loop-first-preserved
loop-first-preserved c = grind (arith, nat_tests, common_steps, pairs_one, walk_goes, pairs_add)

pub returns-in-None : goal.returns-in-None
returns-in-None c =
    let l = c.loop-first in
    let joined = c.args.joined.now in
    let gather = c.args.gather.now in
    no_surplus c.args.topology.now (pairs_of c.args.reduce.now gather) joined l.place
    (walk_ends c.args.topology.now joined (λ xs. pairs_of xs gather) (pairs_add gather) c.args.reduce.now l.first-index 0 l.place c.loop-first-test.false l.invariant) (slice_get_past joined l.place c.in-None.ensures.lookup.3)

pub returns-in-Some-get : goal.returns-in-Some-get
returns-in-Some-get c = grind (arith, nat_tests, common_steps, walk_ends, pairs_add, surplus, got_at)
