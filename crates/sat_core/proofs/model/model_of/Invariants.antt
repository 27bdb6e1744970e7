use Rattle.std.proofs.Common.{◌≡◌, ℕ, ◌+◌, ◌<◌, true, false, length, get_or, Contains}
use Rattle.cnf_formula.specs.Literals.{yes}
use Rattle.trail_core.specs.Meaning.{trues}
use Rattle.sat_core.proofs.model.model_of.Given as goal

abbrev pub invariant-loop-index : goal.invariant-loop-index
invariant-loop-index l = record {
  len : length l.values.items ≡ l.index;
  stands : (v : ℕ) → v < l.index → v < l.own → get_or l.values.items v false ≡ true → Contains (trues l.core) (yes (v + 1));
  lacks : (v : ℕ) → v < l.index → v < l.own → get_or l.values.items v false ≡ false → Contains (trues l.core) (yes (v + 1)) → ⊥;
}
