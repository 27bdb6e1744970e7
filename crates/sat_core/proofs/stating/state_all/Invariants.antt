use Rattle.std.proofs.Common.{◌≡◌}
use Rattle.sat_core.specs.inner.{Going.{CanSearch, IsSameTrail, IsWrittenOn}, Stating.AreStated}
use Rattle.sat_core.proofs.stating.state_all.Given as goal

abbrev pub invariant-loop-place : goal.invariant-loop-place
invariant-loop-place g l =
    let V = g.L.LedgerView in
    let W = g.L.Ledger in
    record {
      written : IsWrittenOn V W l.initial.ledger l.initial.store l.ledger l.store;
      faults : W.faults l.ledger l.store ≡ W.faults l.initial.ledger l.initial.store;
      can : CanSearch V W l.ledger l.store l.core l.guide;
      same : IsSameTrail l.initial.core l.core;
      stated : AreStated l.core.clauses l.stated.items;
    }
