use Rattle.std.specs.Prelude.{◌≡◌}
use Rattle.engine_rules.specs.Searches.{CanGoOn, IsSameSearch}
use Rattle.pareto_search.specs.{inner.Passing.{HasFewerSteps, HasPassed}, Recorded.StaysWithin}
use Rattle.pareto_search.proofs.searching.search.Given as goal

abbrev pub invariant-loop-step : goal.invariant-loop-step
invariant-loop-step g l =
    let I = g.E.EngineView in
    let W = g.E.Engine in
    record {
      passed : HasPassed (I.question l.engine) (I.suits l.engine) (HasFewerSteps (I.question l.engine) l.step) (I.entries l.engine) l.findings;
      within : StaysWithin (I.question l.fn.engine) (I.entries l.engine) (I.stopped l.engine);
      same : IsSameSearch I l.fn.engine I l.engine;
      moves : W.moves l.fn.engine l.fn.store l.engine l.store;
      goes_on : CanGoOn (I.stopped l.engine) (W.agrees l.engine l.store);
      steady : W.faults l.engine l.store ≡ W.faults l.fn.engine l.fn.store;
    }
