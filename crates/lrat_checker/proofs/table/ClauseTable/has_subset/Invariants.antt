use Rattle.std.{proofs.Common.{◌≡◌, true, false, take, map}, specs.List.list_any}
use Rattle.cnf_formula.specs.Literals.{LitValue, has_literal, code_of}
use Rattle.lrat_checker.specs.{inner.Leads.signature_of, Stored.{list_at, finds}}
use Rattle.lrat_checker.proofs.table.ClauseTable.has_subset.Given as goal

abbrev pub invariant-loop-lit : goal.invariant-loop-lit
invariant-loop-lit l =
    let i = l.self-inside in
    (x : LitValue) → has_literal (take l.lit-index l.lits) x ≡ true → list_any (finds i.live.items i.clauses l.lits (signature_of l.lits)) (list_at (map (λ v. v.items) i.leads.items) (code_of x)) ≡ false
