-- A literal of level 0 follows from its reason, where the steps that its walk met are taken for theirs.
use Rattle.std.proofs.Common.{zero, suc, ◌≡◌, ℕ, ◌+◌, ◌<◌, ◌≤◌, Bool, true, false, List, [], ◌∷◌, ◌++◌, length, get_or, take, refl, sym, ap, ◌∙◌, subst, inl, inr, ⊎_elim, arith, eq-eqb, Contains, Option, None, Some, filter, map, reverse, pos}
use Rattle.std.proofs.lemmas.{Bool.{cases_eq, cases_lt, cases_Bool, eqb-true, ne_eqb, false≢true}, List.{Elements.Contains-push, get_or_default, get_or-take, get_or_append_left, get_or_push, length-take-le, length_push, map-append}}
use Rattle.list_laws.proofs.Members.{Contains-map}
use Rattle.cnf_formula.specs.{Literals.{LitValue, negation}, Lines.ProofLineValue}
use Rattle.trail_core.{specs.{Assigned.IsFalse, Formed.IsTrail, Trails.{StepValue, lits_of}, Meaning.CoreValue}}
use Rattle.conflict_analysis.specs.{Learning.{number_of, hints_of, hints_to, IsOut, IsResolved, IsAnalysis}, UnitLines.{denied, IsUnitLine}}
use Rattle.conflict_analysis.specs.{Met.{WalkValue, no_step, step_at, lit_at, mark_of, resolved_by, IsSeen, IsSorted, HasMet, IsPassed, IsReasoned}, inner.Walks.{HasWalked, HasSameAbove}}
use Rattle.conflict_analysis.proofs.{Members.{here, only, cons_cases}, Marked.{false_before, same_place}, Pointed.{kinds, filter_none, IsBegun, met_unresolved, met_passed}}

-- ---- steps that were taken, and have a reason

abbrev has_reason : Option ℕ → Bool → Bool
has_reason None b = false
has_reason (Some id) b = b

abbrev pub resolved_of : WalkValue → StepValue → Bool
resolved_of w s = has_reason s.reason (resolved_by w s)

reason_kept : (r : Option ℕ) (b : Bool) (id : ℕ) → r ≡ Some id → has_reason r b ≡ b
reason_kept None b id e = absurd (cc)
reason_kept (Some x) b id e = refl

reason_taken : (r : Option ℕ) (b : Bool) → has_reason r b ≡ true → b ≡ true
reason_taken None b e = absurd (false≢true e)
reason_taken (Some x) b e = e

reason_false : (r : Option ℕ) (b : Bool) → b ≡ false → has_reason r b ≡ false
reason_false None b e = refl
reason_false (Some x) b e = e

-- ---- the steps up to a place that pass a test are those before it, and the one there

filter_to : (p q : StepValue → Bool) (xs : List StepValue) (n : ℕ) (y : StepValue) → n < length xs → ((k : ℕ) → k < n → p (get_or xs k no_step) ≡ q (get_or xs k no_step)) → p (get_or xs n no_step) ≡ true → ((k : ℕ) → n < k → k < length xs → p (get_or xs k no_step) ≡ false) → q y ≡ false
    → filter p xs ≡ filter q (take n xs ++ y ∷ []) ++ get_or xs n no_step ∷ []
filter_to p q [] n y w low here' high none = absurd (omega (arith, w))
filter_to p q (x ∷ xs) zero y w low here' high none =
    rw here' (rw none (ap (λ ys. x ∷ ys) (filter_none p xs (λ k v. high (suc k) (omega arith) (omega (arith, v))))))
filter_to p q (x ∷ xs) (suc n) y w low here' high none =
    let same : p x ≡ q x = low 0 (omega arith) in
    let rest = filter_to p q xs n y (omega (arith, w)) (λ k v. low (suc k) (omega (arith, v))) here' (λ k v u. high (suc k) (omega (arith, v)) (omega (arith, u))) none in
    ⊎_elim
    (λ t. let u : p x ≡ true = same ∙ t in rw u (rw t (ap (λ ys. x ∷ ys) rest)))
    (λ f. let u : p x ≡ false = same ∙ f in rw u (rw f rest))
    (cases_Bool (q x))

-- ---- the walk has ended

pub record IsWalked (core : CoreValue) (place : ℕ) (w : WalkValue) : Type 0 where
  pub bottom : length core.limits ≡ 0
  pub within : place < length core.trail
  pub sorted : IsSorted core w
  pub passed : IsPassed core 3 w 0
  pub seen : IsSeen w (lit_at core place)
  pub under : (k : ℕ) → k < length core.trail → mark_of w (lit_at core k) ≡ w.stamp + 2 → k ≤ place

-- on level 0 all that was met is taken for its reason
taken_at : (core : CoreValue) (place : ℕ) (w : WalkValue) (k : ℕ) → IsWalked core place w → k < length core.trail → w.stamp ≤ mark_of w (lit_at core k) → mark_of w (lit_at core k) ≡ w.stamp + 2
taken_at core place w k d v seen = grind (arith, ⊎_elim, kinds)

pub reasoned_at : (core : CoreValue) (place : ℕ) (w : WalkValue) (k : ℕ) → IsWalked core place w → k < length core.trail → w.stamp ≤ mark_of w (lit_at core k) → IsReasoned core w k
reasoned_at core place w k d v seen = (d.passed.each k v (taken_at core place w k d v seen)).1

pub reasoned_here : (core : CoreValue) (place : ℕ) (w : WalkValue) → IsWalked core place w → IsReasoned core w place
reasoned_here core place w d = reasoned_at core place w place d d.within d.seen

resolved_at : (core : CoreValue) (place : ℕ) (w : WalkValue) (k : ℕ) → IsWalked core place w → k < length core.trail → w.stamp ≤ mark_of w (lit_at core k) → resolved_of w (step_at core k) ≡ true
resolved_at core place w k d v seen =
    let r = reasoned_at core place w k d v seen in
    reason_kept (step_at core k).reason (resolved_by w (step_at core k)) r.id r.reason ∙ eq-eqb (mark_of w (lit_at core k)) (w.stamp + 2) (taken_at core place w k d v seen)

-- ---- the trail with the negation

denied_at : (core : CoreValue) (place k : ℕ) (d : StepValue) → place < length core.trail → k < place → get_or (denied core place) k d ≡ step_at core k
denied_at core place k d w lt = grind (arith, length-take-le, get_or_append_left, get_or-take, get_or_default)

denied_end : (core : CoreValue) (place : ℕ) (d : StepValue) → place < length core.trail → get_or (denied core place) place d ≡ record { lit = negation (lit_at core place); reason = None }
denied_end core place d w = get_or_push (take place core.trail) (record { lit = negation (lit_at core place); reason = None }) d place (length-take-le place core.trail (omega (arith, w)))

pub denied_length : (core : CoreValue) (place : ℕ) → place < length core.trail → length (denied core place) ≡ place + 1
denied_length core place w = grind (arith, length-take-le, length_push)

-- what was met and is false before a step is out there
out_under : (core : CoreValue) (place : ℕ) (w : WalkValue) (k : ℕ) (before : List StepValue) (clause : List LitValue) (o : LitValue) → IsWalked core place w → k ≤ place → ((j : ℕ) → j < k → Contains before (step_at core j)) → IsSeen w o → IsFalse (lits_of (take k core.trail)) o → IsOut (resolved_of w) before clause o
out_under core place w k before clause o d le stand seen f =
    let j = false_before core o k (omega (arith, le, d.within)) f in
    let mark : mark_of w (lit_at core j.0) ≡ mark_of w o = ap (λ v. get_or w.marks v 0) j.2.var in
    inr (step_at core j.0, stand j.0 j.1, resolved_at core place w j.0 d j.2.within (omega (arith, mark, seen)), j.2.is)

-- ---- so it is an analysis

pub denied_analysis : (core : CoreValue) (place : ℕ) (w : WalkValue) (d : IsWalked core place w) → IsAnalysis core.clauses (denied core place) (resolved_of w) (reasoned_here core place w d).id (lit_at core place ∷ [])
denied_analysis core place w d = record {
  each = λ k x v t. ⊎_elim
      (λ lt. below k x lt t)
      (λ ge. absurd (grind (arith, denied_length core place d.within, denied_end core place x d.within, false≢true)))
      (cases_lt k place);
  within = (reasoned_here core place w d).within;
  last = λ o c. ⊎_elim
      (λ e. inl (subst (λ x. Contains (lit_at core place ∷ []) x) (sym e) (here (lit_at core place) [])))
      (λ h. out_under core place w place (denied core place) (lit_at core place ∷ []) o d (omega arith) stand h.0 h.1)
      ((reasoned_here core place w d).others o c);
  falses = λ o c. subst (λ x. IsFalse (lits_of (denied core place)) x) (only (lit_at core place) o c) (Contains-map (λ s. s.lit) (denied core place) _ (Contains-push (take place core.trail) (record { lit = negation (lit_at core place); reason = None })));
}
  where
    stand : (j : ℕ) → j < place → Contains (denied core place) (step_at core j)
    stand j lt =
        let n = denied_length core place d.within in
        (j, omega (arith, n, lt), denied_at core place j (step_at core j) d.within lt)

    below : (k : ℕ) (x : StepValue) → k < place → resolved_of w (get_or (denied core place) k x) ≡ true → IsResolved core.clauses (resolved_of w) (lit_at core place ∷ []) (take k (denied core place)) (get_or (denied core place) k x)
    below k x lt t =
        let at = denied_at core place k x d.within lt in
        let v : k < length core.trail = omega (arith, lt, d.within) in
        let b : resolved_by w (step_at core k) ≡ true = reason_taken (step_at core k).reason (resolved_by w (step_at core k)) (ap (resolved_of w) (sym at) ∙ t) in
        let m : mark_of w (lit_at core k) ≡ w.stamp + 2 = eqb-true (mark_of w (lit_at core k)) (w.stamp + 2) b in
        let r = reasoned_at core place w k d v (omega (arith, m)) in
        let n = denied_length core place d.within in
        subst (IsResolved core.clauses (resolved_of w) (lit_at core place ∷ []) (take k (denied core place))) (sym at) (record {
          id = r.id;
          reason = r.reason;
          within = r.within;
          stands = r.stands;
          others = λ o c. ⊎_elim
              (λ e. inl e)
              (λ h. inr (out_under core place w k (take k (denied core place)) (lit_at core place ∷ []) o d (omega (arith, lt))
              (λ j lj.
              let s = step_at core j in
              let l = length-take-le k (denied core place) (omega (arith, n, lt)) in
              (j, omega (arith, l, lj), get_or-take k (denied core place) j s lj ∙ denied_at core place j s d.within (omega (arith, lj, lt))))
              h.0 h.1))
              (r.others o c);
        })

-- ---- and has its hints

pub denied_hints : (core : CoreValue) (place : ℕ) (w : WalkValue) (d : IsWalked core place w) → reverse w.hints ≡ hints_to (resolved_of w) (denied core place) (reasoned_here core place w d).id
denied_hints core place w d =
    let r = reasoned_here core place w d in
    let y : StepValue = record { lit = negation (lit_at core place); reason = None } in
    let all = filter_to (resolved_by w) (resolved_of w) core.trail place y d.within same (eq-eqb (mark_of w (lit_at core place)) (w.stamp + 2) (taken_at core place w place d d.within d.seen)) high refl in
    d.passed.hints
    ∙ ap (map (λ s. pos (number_of s.reason))) all
    ∙ map-append (λ s. pos (number_of s.reason)) (filter (resolved_of w) (denied core place)) (step_at core place ∷ [])
    ∙ ap (λ x. hints_of (resolved_of w) (denied core place) ++ pos (number_of x) ∷ []) r.reason
  where
    high : (k : ℕ) → place < k → k < length core.trail → resolved_by w (step_at core k) ≡ false
    high k gt v = ne_eqb (mark_of w (lit_at core k)) (w.stamp + 2) (λ e. let u = d.under k v e in omega (arith, u, gt))

    -- a step that was taken has a reason
    same : (k : ℕ) → k < place → resolved_by w (step_at core k) ≡ resolved_of w (step_at core k)
    same k lt = grind (arith, cases_eq (mark_of w (lit_at core k)) (w.stamp + 2), d.passed.each k (omega (arith, lt, d.within)), reason_kept (step_at core k).reason (resolved_by w (step_at core k)), reason_false (step_at core k).reason (resolved_by w (step_at core k)), ne_eqb (mark_of w (lit_at core k)) (w.stamp + 2), ⊎_elim)

-- ---- as the walk begins with one literal, and ends

pub met_from : (core : CoreValue) (place : ℕ) (o : LitValue) (a b : WalkValue) → IsTrail core.vars core.trail core.limits → place < length core.trail → o.var ≡ (lit_at core place).var → IsBegun core a → HasMet core (o ∷ []) a b → IsPassed core 3 b (place + 1)
met_from core place o a b t w e begun m = grind (arith, met_passed core (o ∷ []) a b begun m, met_unresolved, same_place, cons_cases)

pub walked_by : (core : CoreValue) (place : ℕ) (o : LitValue) (a b c : WalkValue) → place < length core.trail → length core.limits ≡ 0 → o.var ≡ (lit_at core place).var → IsBegun core a → HasMet core (o ∷ []) a b → HasWalked core 3 b c 0 → HasSameAbove core (place + 1) b c → IsWalked core place c
walked_by core place o a b c w bottom e begun m h above = grind (arith, here o [], met_unresolved)

pub unit_line_by : (core : CoreValue) (place : ℕ) (w : WalkValue) (line : ProofLineValue) → IsWalked core place w → line.lits ≡ lit_at core place ∷ [] → line.hints ≡ reverse w.hints → IsUnitLine core place line
unit_line_by core place w line d lits hints =
    record { conflict = (reasoned_here core place w d).id; resolved = resolved_of w; lits = lits; analysis = rw lits (denied_analysis core place w d); hints = hints ∙ denied_hints core place w d }
