-- Where nothing is left to decide, the values of the variables satisfy the formula.
use Rattle.std.proofs.{Common.{◌≡◌, ◌+◌, ◌-◌, ◌<◌, Bool, true, false, List, [], length, get_or, ap, ◌∙◌, subst, ⊎_elim, arith, not, Contains}, lemmas.{Bool.cases_Bool, List.get_or_default}}
use Rattle.std.proofs.lemmas.List.{Elements.{Contains-get_or, All-contains}, Sums.list_all-from_AllPass}
use Rattle.list_laws.proofs.Each.{all_contained}
use Rattle.cnf_formula.specs.{Literals.{LitValue, yes, same_sign, value_of, is_true, clause_holds}, Lines.ProofLineValue, Formulas.{FormulaValue, IsAbout, IsClause, Satisfies}}
use Rattle.trail_core.specs.Meaning.{CoreValue, trues}
use Rattle.sat_core.{specs.{inner.{Holding.IsSame, Totals.{IsTotal, AreValues}}, Ready.IsReady}, proofs.{Members.any_by, Once.consistent_by, Totality.total_satisfied}}
use Rattle.sleeping_clauses.specs.{Sleeping.SleepersValue, declared.awake.Awake.Awake}

-- a literal on the trail is true
stands_true : (core : CoreValue) (values : List Bool) (l : LitValue) → IsTotal core → AreValues (trues core) core.vars values → IsAbout core.vars l → Contains (trues core) l → is_true values l ≡ true
stands_true core values l t v a c = go l.positive c
  where
    w : l.var - 1 < core.vars
    w = omega (arith, a.some, a.within)

    up : l.var - 1 + 1 ≡ l.var
    up = omega (arith, a.some)

    go : (p : Bool) → Contains (trues core) (record { var = l.var; positive = p }) → same_sign p (value_of values l.var) ≡ true
    go true d = ⊎_elim (λ h. h) (λ h. absurd (v.lacks (l.var - 1) w h (rw up d))) (cases_Bool (value_of values l.var))
    go false d = ⊎_elim (λ h. absurd (consistent_by (trues core) t.formed.apart (yes l.var) (rw up at (v.stands (l.var - 1) w h)) d)) (λ h. ap not h) (cases_Bool (value_of values l.var))

pub model_satisfies : (base : FormulaValue) (lines : List ProofLineValue) (core : CoreValue) (awake : Awake) (sleepers : SleepersValue) (values : List Bool) → IsReady base lines core awake sleepers → IsTotal core → length values ≡ base.vars → AreValues (trues core) core.vars values → Satisfies values base
model_satisfies base lines core awake sleepers values r t n v = record {
  values_are = n;
  holds = list_all-from_AllPass (clause_holds values) base.clauses (all_contained (λ clause. clause_holds values clause ≡ true) base.clauses (λ clause c.
      let k = c.0 in
      let is : get_or base.clauses k [] ≡ clause = get_or_default base.clauses k [] clause c.1 ∙ c.2 in
      let other = get_or core.clauses k [] in
      let stands : Contains core.clauses other = Contains-get_or core.clauses k [] (omega (arith, c.1, r.holding.within)) in
      let same : IsSame clause other = subst (λ xs. IsSame xs other) is (r.holding.first k c.1) in
      let about = All-contains (IsClause core.vars) core.clauses other t.about stands in
      let s = total_satisfied core t other stands about in
      any_by (is_true values) clause s.0 (same.from s.0 s.1) (stands_true core values s.0 t v (All-contains (IsAbout core.vars) other s.0 about s.1) s.2)));
}
