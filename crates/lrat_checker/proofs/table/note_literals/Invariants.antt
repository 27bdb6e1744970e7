use Rattle.std.proofs.Common.{◌≡◌, ℕ, true, length, map, take, Contains}
use Rattle.cnf_formula.specs.Literals.{LitValue, code_of, has_literal}
use Rattle.lrat_checker.specs.Stored.{list_at}
use Rattle.lrat_checker.proofs.table.note_literals.Given as goal

abbrev pub invariant-loop-lit : goal.invariant-loop-lit
invariant-loop-lit l = record {
  long : length l.lists.items ≡ length l.initial.lists.items;
  kept : (code k : ℕ) → Contains (list_at (map (λ v. v.items) l.initial.lists.items) code) k → Contains (list_at (map (λ v. v.items) l.lists.items) code) k;
  noted : (x : LitValue) → has_literal (take l.lit-index l.lits) x ≡ true → Contains (list_at (map (λ v. v.items) l.lists.items) (code_of x)) l.place;
}
