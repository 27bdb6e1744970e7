use Rattle.std.proofs.{lemmas.{Bool.Decides.nat_tests, Grind.common_steps}, Common.{arith, [], ◌∷◌, sym, subst}}
use Rattle.allreduce_join.specs.Joins.{IsJoinable}
use Rattle.frontier_audit.{specs.inner.Steps.{JoinsSay, pairs_with}, proofs.Pairing.{none_say, walk_ends, walk_goes, walk_stops, with_append}}
use Rattle.frontier_audit.proofs.joins.gathered_denied.Goals as goal

pub loop-second-init : goal.loop-second-init
loop-second-init c = none_say c.args.topology.now c.args.joined.now c.args.place.now

pub pair_denied-requires-clause-second : goal.pair_denied-requires-clause-second
pair_denied-requires-clause-second c = subst IsJoinable (sym c.second-item.is) (c.requires.gather c.loop-second.second-index c.second-item.result c.loop-second-test.true)

pub returns-in-Some : goal.returns-in-Some
returns-in-Some c =
    let l = c.loop-second in
    let a = c.args.first.now in
    walk_stops c.args.topology.now c.args.joined.now (pairs_with a) (with_append a) c.args.gather.now l.second-index c.second-item.result c.loop-second-test.true c.second-item.is c.args.place.now l.place c.pair_denied.new.place l.invariant c.in-Some.denial
    (subst (JoinsSay c.args.topology.now (pairs_with a (c.second-item.result ∷ [])) c.args.joined.now l.place c.pair_denied.new.place) c.in-Some.is c.in_ok-denial.ensures)

pub loop-second-preserved : goal.loop-second-preserved
loop-second-preserved c = grind (arith, nat_tests, common_steps, walk_goes, with_append)

pub returns : goal.returns
returns c = grind (arith, nat_tests, common_steps, walk_ends, with_append)
