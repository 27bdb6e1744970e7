use Rattle.std.proofs.{Common.{◌≡◌, ◌+◌, get_or, length, subst, sym, ◌∙◌, arith}, lemmas.List.get_or_default}
use Rattle.collective_spec.specs.Collectives.{kind_in}
use Rattle.candidate_order.specs.declared.candidate.Candidate.{Candidate}
use Rattle.engine_rules.proofs.Searches.{same_refl, same_trans}
use Rattle.pareto_search.specs.{inner.Passing.{HasFewerSteps, IsBefore, IsUpTo, IsThrough, IsStep, HasPassed}, Recorded.StaysWithin}
use Rattle.pareto_search.proofs.Places.{replaced, before_here, up_to_here, none_yet, whole_step, counts_allowed, listed_step, starts_within}
use Rattle.pareto_search.proofs.trying.try_step.Goals as goal

pub list-requires-clause-counts : goal.list-requires-clause-counts
list-requires-clause-counts g c =
    let q = g.E.EngineView.question c.args.engine.now in
    counts_allowed c.args.limits.now (kind_in q.spec) q.topology.nodes c.args.allowed.now c.requires.allowed

pub loop-candidate-init : goal.loop-candidate-init
loop-candidate-init g c =
    let I = g.E.EngineView in
    let e = c.args.engine.now in
    let q = I.question e in
    let xs = c.deref-candidate-items.result.now in
    let made = c.in_ok-candidates.ensures in
    let step = listed_step q c.args.limits.now c.args.allowed.now c.args.step c.in_ok-candidates.candidates.items xs c.requires.limits c.requires.allowed c.requires.some_step c.requires.step made.members made.order c.deref-candidate-items.ensures.value in
    record {
      step = step;
      passed = replaced q (I.suits e) (HasFewerSteps q c.args.step) (IsThrough q c.args.step xs 0) (I.entries e) c.args.findings.now (none_yet q c.args.step xs step) c.requires.passed;
      within = starts_within q (HasFewerSteps q c.args.step) (I.entries e) (I.stopped e) (λ x h. h.0) c.requires.passed.were_passed c.requires.running;
      same = same_refl;
      moves = g.met.E.Engine.moves_refl e c.args.store.now;
      goes_on = record { running = c.requires.running; agrees = c.requires.agrees };
      steady = λ i. g.E.Engine.faults e c.args.store.now;
    }

pub try_candidate-requires-clause-within : goal.try_candidate-requires-clause-within
try_candidate-requires-clause-within g c =
    let xs = c.deref-candidate-items.result.now in
    let i = c.loop-candidate.candidate-index in
    let none : Candidate = record { s = 0; r = 0; c = 0 } in
    let here = get_or xs i none in
    ((c.loop-candidate.invariant.step.members here).0 (i, c.loop-candidate-test.true, get_or_default xs i here none c.loop-candidate-test.true)).1

pub try_candidate-requires-clause-passed : goal.try_candidate-requires-clause-passed
try_candidate-requires-clause-passed g c =
    let I = g.E.EngineView in
    let l = c.loop-candidate in
    let q = I.question l.engine in
    let xs = c.deref-candidate-items.result.now in
    let i = l.candidate-index in
    let none : Candidate = record { s = 0; r = 0; c = 0 } in
    let here = get_or xs i none in
    let before = before_here q c.args.step xs l.invariant.step i here c.loop-candidate-test.true (get_or_default xs i none here c.loop-candidate-test.true) in
    replaced q (I.suits l.engine) (IsThrough q c.args.step xs i) (IsBefore q here) (I.entries l.engine) l.findings before l.invariant.passed

pub loop-candidate-preserved : goal.loop-candidate-preserved
loop-candidate-preserved g c =
    let I = g.E.EngineView in
    let l = c.loop-candidate in
    let e = c.try_candidate.new.engine in
    let q = I.question e in
    let xs = c.deref-candidate-items.result.now in
    let i = l.candidate-index in
    let none : Candidate = record { s = 0; r = 0; c = 0 } in
    let here = get_or xs i none in
    let done = c.in_ok-try_candidate.ensures in
    let step = subst (λ a. IsStep a c.args.step xs) (sym done.same.question) l.invariant.step in
    let through = up_to_here q c.args.step xs step i here c.loop-candidate-test.true (get_or_default xs i none here c.loop-candidate-test.true) in
    record {
      step = step;
      passed = replaced q (I.suits e) (IsUpTo q here) (IsThrough q c.args.step xs (i + 1)) (I.entries e) c.try_candidate.new.findings through done.passed;
      within = subst (λ a. StaysWithin a (I.entries e) (I.stopped e)) l.invariant.same.question done.within;
      same = same_trans l.invariant.same done.same;
      moves = g.met.E.Engine.moves_trans _ _ _ _ _ _ l.invariant.moves done.moves;
      goes_on = done.goes_on;
      steady = done.cause.stays (λ failed. absurd cc) ∙ l.invariant.steady;
    }

pub returns-clause-passed : goal.returns-clause-passed
returns-clause-passed g c =
    let I = g.E.EngineView in
    let l = c.loop-candidate in
    let q = I.question l.engine in
    let xs = c.deref-candidate-items.result.now in
    let end : l.candidate-index ≡ length xs = omega (arith, l.auto.candidate-index-end, c.loop-candidate-test.false) in
    let through = subst (λ n. HasPassed q (I.suits l.engine) (IsThrough q c.args.step xs n) (I.entries l.engine) l.findings) end l.invariant.passed in
    replaced q (I.suits l.engine) (IsThrough q c.args.step xs (length xs)) (HasFewerSteps q (c.args.step + 1)) (I.entries l.engine) l.findings (whole_step q c.args.step xs l.invariant.step) through
