use Rattle.std.proofs.{Common.{ap, Ok}, lemmas.Bool.iff_false}
use Rattle.engine_rules.specs.Outcomes.{kind_of}
use Rattle.pareto_search.proofs.Steps.{pass_over, settled_more, stays_within}
use Rattle.pareto_search.proofs.trying.try_candidate.Goals as goal

pub returns-then-settles-clause-passed : goal.returns-then-settles-clause-passed
returns-then-settles-clause-passed g c =
    let I = g.E.EngineView in
    let e = c.args.engine.now in
    pass_over (I.question e) (I.suits e) (I.entries e) c.args.findings.now c.args.candidate c.requires.within c.requires.passed (c.settles.ensures.0 c.if-settles.true)

pub returns-in_err-add-clause-within : goal.returns-in_err-add-clause-within
returns-in_err-add-clause-within g c =
    let I = g.E.EngineView in
    let e = c.args.engine.now in
    let done = c.in_ok-outcome.ensures in
    stays_within (I.question e) c.args.candidate (kind_of c.in_ok-outcome.outcome) (I.entries e) _ _ c.requires.within c.requires.passed.were_passed done.entries done.goes_on.running

pub returns-clause-within : goal.returns-clause-within
returns-clause-within g c =
    let I = g.E.EngineView in
    let e = c.args.engine.now in
    let done = c.in_ok-outcome.ensures in
    stays_within (I.question e) c.args.candidate (kind_of c.in_ok-outcome.outcome) (I.entries e) _ _ c.requires.within c.requires.passed.were_passed done.entries done.goes_on.running

pub returns-clause-passed : goal.returns-clause-passed
returns-clause-passed g c =
    let I = g.E.EngineView in
    let e = c.args.engine.now in
    let n = c.settle.new.self in
    let done = c.in_ok-outcome.ensures in
    settled_more (I.question e) (I.question n) (I.suits e) (I.suits n) (I.entries e) (I.entries n) c.args.findings.now c.add.new.self c.args.candidate c.in_ok-outcome.outcome c.requires.within c.requires.passed (iff_false c.settles.ensures c.if-settles.false) done.same.question done.entries
    (λ x s h. (done.same.suits x s).1 h) c.in_ok-add.ensures (λ s is. done.solved s (ap Ok is)) (λ is. done.refuted (ap Ok is)) (λ n is. (done.unknown n (ap Ok is)).0)
