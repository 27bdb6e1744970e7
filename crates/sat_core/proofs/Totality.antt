-- A total core makes a literal of each of its clauses true.
use Rattle.std.{specs.List.list_any, proofs.{Common.{List, sym, ◌∙◌, ⊎_elim, Contains, All, arith}, lemmas.{Bool.{false≢true, cases_Bool}, List.{Elements.All-contains, Folds.Any-from_list_any}}}}
use Rattle.cnf_formula.specs.{Literals.{LitValue, negation, no, has_literal}, Formulas.IsAbout}
use Rattle.trail_core.specs.{Assigned.IsOpen, Search.IsSatisfied, Meaning.{CoreValue, trues}}
use Rattle.sat_core.{specs.inner.Totals.IsTotal, proofs.Members.{any_by, found_by, stands_by, stands_or_not}}

-- an open literal's variable is open, as false too
open_no : (ts : List LitValue) (l : LitValue) → (Contains ts l → ⊥) → (Contains ts (negation l) → ⊥) → IsOpen ts (no l.var)
open_no ts l a b = grind (arith, cases_Bool l.positive)

pub total_satisfied : (core : CoreValue) → IsTotal core → (clause : List LitValue) → Contains core.clauses clause → All (IsAbout core.vars) clause → IsSatisfied (trues core) clause
total_satisfied core t clause c of = ⊎_elim
    (λ s. let a = Any-from_list_any (has_literal (trues core)) clause s in (a.1, (a.0, a.2, a.3), stands_by (trues core) a.1 a.4))
    (λ none. absurd (t.closed.not_falsified clause c (λ l h. ⊎_elim
    (λ f. f)
    (λ m.
    let o = All-contains (IsAbout core.vars) clause l of h in
    let n : Contains (trues core) l → ⊥ = λ y. false≢true (sym none ∙ any_by (has_literal (trues core)) clause l h (found_by (trues core) l y)) in
    absurd (t.all l.var o.some o.within (open_no (trues core) l n m)))
    (stands_or_not (trues core) (negation l)))))
    (cases_Bool (list_any (has_literal (trues core)) clause))
