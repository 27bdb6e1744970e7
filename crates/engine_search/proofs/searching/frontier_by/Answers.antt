use Rattle.engine_search.proofs.{Searched.allowed_for, Found.{found_as_asked, found_copied, recorded_as_asked}}
use Rattle.engine_search.proofs.searching.frontier_by.Goals as goal

pub search-requires-clause-allowed : goal.search-requires-clause-allowed
search-requires-clause-allowed g c =
    allowed_for (record { topology = c.args.topology.now; spec = c.args.spec.now; limits = c.args.limits }) c.kind.result c.nodes.result c.in_ok-allowed.allowed.items c.deref.result.now c.requires.question c.kind.ensures c.nodes.ensures.nodes c.deref.ensures.value
    c.in_ok-allowed.ensures.allowed

pub returns-clause-found : goal.returns-clause-found
returns-clause-found g c =
    let E = g.E.EngineView in
    let engine = c.search.new.engine in
    let formula = E.formula engine in
    let suits = E.suits engine in
    let was = c.args.engine.now in
    found_as_asked formula suits (record { topology = c.args.topology.now; spec = c.args.spec.now; limits = c.args.limits }) c.requires.spec (E.question was) c.requires.question (g.met.E.EngineView.copies was) c.in_ok-frontier.ensures
    (found_copied formula suits c.in_ok-copied.ensures.right c.in_ok-copied.ensures.searched c.in_ok-copied.ensures.suits c.in_ok-copied.ensures.entries c.search.ensures.within c.search.ensures.same.question
    (g.met.E.EngineView.copies engine) (λ x at. g.met.E.EngineView.exhausted engine x at))

pub returns-clause-recorded : goal.returns-clause-recorded
returns-clause-recorded g c = recorded_as_asked c.args.spec.now c.in_ok-copied.copied c.in_ok-frontier.ensures c.in_ok-copied.ensures.entries
