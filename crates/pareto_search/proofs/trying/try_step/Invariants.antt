use Rattle.std.specs.Prelude.{◌≡◌}
use Rattle.engine_rules.specs.Searches.{CanGoOn, IsSameSearch}
use Rattle.pareto_search.specs.{inner.Passing.{IsStep, IsThrough, HasPassed}, Recorded.StaysWithin}
use Rattle.pareto_search.proofs.trying.try_step.Given as goal

abbrev pub invariant-loop-candidate : goal.invariant-loop-candidate
invariant-loop-candidate g l =
    let I = g.E.EngineView in
    let W = g.E.Engine in
    record {
      step : IsStep (I.question l.engine) l.step l.candidate-items;
      passed : HasPassed (I.question l.engine) (I.suits l.engine) (IsThrough (I.question l.engine) l.step l.candidate-items l.candidate-index) (I.entries l.engine) l.findings;
      within : StaysWithin (I.question l.fn.engine) (I.entries l.engine) (I.stopped l.engine);
      same : IsSameSearch I l.fn.engine I l.engine;
      moves : W.moves l.fn.engine l.fn.store l.engine l.store;
      goes_on : CanGoOn (I.stopped l.engine) (W.agrees l.engine l.store);
      steady : W.faults l.engine l.store ≡ W.faults l.fn.engine l.fn.store;
    }
