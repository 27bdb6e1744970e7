use Rattle.std.proofs.Common.{◌≡◌}
use Rattle.sleeping_clauses.proofs.awake.Awake.keep_reasons.Given as goal

abbrev pub invariant-loop-place : goal.invariant-loop-place
invariant-loop-place l = record {
  ids : l.self.ids ≡ l.initial.self.ids;
  names : l.self.names ≡ l.initial.self.names;
  formula : l.self.formula ≡ l.initial.self.formula;
  held : l.self.held ≡ l.initial.self.held;
}
