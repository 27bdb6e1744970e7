use Rattle.std.proofs.Common.{subst, sym, arith}
use Rattle.collective_spec.specs.Collectives.{kind_in}
use Rattle.candidate_order.specs.Listed.{AreAllowed}
use Rattle.pareto_search.proofs.Finished.{finished}
use Rattle.pareto_search.proofs.searching.search.Goals as goal

pub try_step-requires-clause-allowed : goal.try_step-requires-clause-allowed
try_step-requires-clause-allowed g c =
    subst (λ q. AreAllowed c.args.limits.now (kind_in q.spec) q.topology.nodes c.args.allowed.now) (sym c.loop-step.invariant.same.question) c.requires.allowed

pub returns-clause-right : goal.returns-clause-right
returns-clause-right g c =
    let I = g.E.EngineView in
    let l = c.loop-step in
    (finished (I.question c.args.engine.now) (I.question l.engine) (I.suits l.engine) (I.entries l.engine) l.findings c.into_frontier.result c.args.limits.now l.step l.invariant.same.question c.requires.limits (omega (arith, c.max_s-step-end.ensures.max_s, c.loop-step-test.false)) (g.met.E.EngineView.copies l.engine) l.invariant.passed c.into_frontier.ensures).right

pub returns-clause-searched : goal.returns-clause-searched
returns-clause-searched g c =
    let I = g.E.EngineView in
    let l = c.loop-step in
    (finished (I.question c.args.engine.now) (I.question l.engine) (I.suits l.engine) (I.entries l.engine) l.findings c.into_frontier.result c.args.limits.now l.step l.invariant.same.question c.requires.limits (omega (arith, c.max_s-step-end.ensures.max_s, c.loop-step-test.false)) (g.met.E.EngineView.copies l.engine) l.invariant.passed c.into_frontier.ensures).searched

pub returns-clause-entries : goal.returns-clause-entries
returns-clause-entries g c =
    let I = g.E.EngineView in
    let l = c.loop-step in
    (finished (I.question c.args.engine.now) (I.question l.engine) (I.suits l.engine) (I.entries l.engine) l.findings c.into_frontier.result c.args.limits.now l.step l.invariant.same.question c.requires.limits (omega (arith, c.max_s-step-end.ensures.max_s, c.loop-step-test.false)) (g.met.E.EngineView.copies l.engine) l.invariant.passed c.into_frontier.ensures).shuffles
