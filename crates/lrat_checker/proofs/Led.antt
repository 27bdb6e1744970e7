-- The list that a clause is put into.
use Rattle.std.proofs.{Common.{ℕ, ◌+◌, ◌*◌, ◌<◌, List, [], ◌∷◌, arith}, lemmas.{List.Elements.All-contains, Map.Views.Contains-from_any}}
use Rattle.cnf_formula.{proofs.{Codes.code_within, Clauses.same_is}, specs.{Literals.LitValue, Formulas.{IsAbout, IsClause}}}
use Rattle.lrat_checker.specs.inner.Leads.{IsLead}

pub lead_within : (vars : ℕ) (lits : List LitValue) (code : ℕ) → IsClause vars lits → IsLead lits code → code < 2 * vars + 2
lead_within vars [] code about e = omega (arith, e)
lead_within vars (x ∷ xs) code about (l, has, e) =
    let within = code_within vars l (All-contains (IsAbout vars) (x ∷ xs) l about (Contains-from_any same_is l (x ∷ xs) has)) in
    omega (arith, within, e)
