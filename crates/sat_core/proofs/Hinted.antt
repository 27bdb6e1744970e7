-- The reasons of the resolved steps in the order of the trail, and then the falsified clause, are a conflict for what remains.
use Rattle.std.proofs.Common.{◌≡◌, ℕ, ◌+◌, ◌<◌, ◌≤◌, Bool, true, List, [], ◌∷◌, ◌++◌, length, get_or, take, refl, sym, ap, ◌∙◌, subst, inl, inr, ⊎_elim, arith, All, Contains, Some, map, filter, ℤ, pos, ◌⊎◌}
use Rattle.std.proofs.lemmas.{Bool.{false≢true, cases_Bool}, List.{append-nil, append_assoc, take_at, length-append, length-map, length_push, get_or-append-add, Elements.{Contains-push_cases, Contains-append_right, All-map, All-push}}}
use Rattle.list_laws.proofs.{Each.all_contained, Members.{Contains-cons, Contains-map}, Tests.few_kept}
use Rattle.cnf_formula.specs.Literals.{LitValue, negation}
use Rattle.proof_rules.specs.{Held.{Entry, clause_at}, Accepting.{Takes, Falsifies, Conflicts, leading, hint_groups_from}}
use Rattle.trail_core.{specs.{Assigned.{IsFalse, IsConsistent}, Trails.{StepValue, lits_of}}, proofs.Keeping.negated_twice}
use Rattle.conflict_analysis.{specs.Learning.{number_of, hints_to, IsOut, IsResolved, IsAnalysis}, proofs.Members.{here, cons_cases}}
use Rattle.sat_core.{specs.inner.{Hints.{name_of, numbers_of, numbers_to}, Holding.AreNamed}, proofs.Members.{from_filter, found_by, not_found}}
use Rattle.sleeping_clauses.specs.Naming.{name, IsName}

-- a hint that leaves one literal, before hints that go on
pub hint_then : (held : List Entry) (falses : List LitValue) (hint : ℕ) (l : LitValue) (hints : List ℕ) (last : ℕ) → Takes held falses hint l → Conflicts held (negation l ∷ falses) (hints ++ last ∷ []) → Conflicts held falses (hint ∷ (hints ++ last ∷ []))
hint_then held falses hint l [] last t c = (l, t, c)
hint_then held falses hint l (next ∷ hints) last t c = (l, t, c)

-- a resolved step's reason leaves the step's literal
pub reason_takes : (held : List Entry) (names : List ℕ) (clauses : List (List LitValue)) (falses : List LitValue) (resolved : StepValue → Bool) (clause : List LitValue) (before : List StepValue) (s : StepValue) → AreNamed held names clauses → IsResolved clauses resolved clause before s
    → ((o : LitValue) → IsOut resolved before clause o → Contains falses o) → (Contains falses s.lit → ⊥) → Takes held falses (name_of names s.reason) s.lit
reason_takes held names clauses falses resolved clause before s a r out not =
    let h = a r.id r.within in
    record {
      clause = h.0;
      names = subst (λ n. clause_at held n ≡ Some h.0) (sym (ap (name_of names) r.reason)) h.1;
      stands = found_by h.0 s.lit (h.2.from s.lit r.stands);
      not_false = not_found falses s.lit not;
      others = all_contained _ h.0 (λ o c. ⊎_elim (λ e. inr e) (λ u. inl (found_by falses o (out o u))) (r.others o (h.2.into o c)));
    }

last_falsifies : (held : List Entry) (names : List ℕ) (clauses : List (List LitValue)) (falses : List LitValue) (id : ℕ) → AreNamed held names clauses → id < length clauses → ((o : LitValue) → Contains (get_or clauses id []) o → Contains falses o) → Falsifies held falses (get_or names (id + 1) 0)
last_falsifies held names clauses falses id a w f =
    let h = a id w in
    record {
      clause = h.0;
      names = h.1;
      each = all_contained _ h.0 (λ o c. found_by falses o (f o (h.2.into o c)));
    }

at_seam : {X : Type 0} (xs : List X) (x : X) (ys : List X) (d : X) → get_or (xs ++ x ∷ ys) (length xs) d ≡ x
at_seam xs x ys d = grind (arith, get_or-append-add xs (x ∷ ys) 0 d)

pub conflicts_from : (held : List Entry) (names : List ℕ) (clauses : List (List LitValue)) (steps : List StepValue) (resolved : StepValue → Bool) (conflict : ℕ) (clause : List LitValue) → AreNamed held names clauses → IsConsistent (lits_of steps) → IsAnalysis clauses steps resolved conflict clause
    → (rest before : List StepValue) (falses : List LitValue) → steps ≡ before ++ rest → ((o : LitValue) → IsOut resolved before clause o → Contains falses o) → ((o : LitValue) → Contains falses o → IsFalse (lits_of steps) o)
    → Conflicts held falses (numbers_to names resolved rest conflict)
conflicts_from held names clauses steps resolved conflict clause a con an [] before falses e out fal =
    last_falsifies held names clauses falses conflict a an.within (λ o c. out o (subst (λ xs. IsOut resolved xs clause o) (e ∙ append-nil before) (an.last o c)))
conflicts_from held names clauses steps resolved conflict clause a con an (s ∷ rest) before falses e out fal =
    ⊎_elim
    (λ b.
    let k = length before in
    let k< : k < length steps = omega (arith, ap length e, length-append before (s ∷ rest)) in
    let g : get_or steps k s ≡ s = ap (λ xs. get_or xs k s) e ∙ at_seam before s rest s in
    let t : take k steps ≡ before = ap (take k) e ∙ take_at before (s ∷ rest) k refl in
    let r : IsResolved clauses resolved clause before s = subst (λ x. IsResolved clauses resolved clause before x) g (subst (λ xs. IsResolved clauses resolved clause xs (get_or steps k s)) t (an.each k s k< (subst (λ x. resolved x ≡ true) (sym g) b))) in
    let in' : Contains steps s = subst (λ xs. Contains xs s) (sym e) (Contains-append_right before (s ∷ rest) s (here s rest)) in
    let stands : Contains (lits_of steps) s.lit = Contains-map (λ x. x.lit) steps s in' in
    rw b (hint_then held falses (name_of names s.reason) s.lit (numbers_of names resolved rest) (get_or names (conflict + 1) 0)
    (reason_takes held names clauses falses resolved clause before s a r out (λ c. con s.lit stands (fal s.lit c)))
    (conflicts_from held names clauses steps resolved conflict clause a con an rest (before ++ s ∷ []) (negation s.lit ∷ falses) seam
    (λ o u. ⊎_elim (λ h. Contains-cons (negation s.lit) falses o (out o h)) (λ e. subst (λ x. Contains (negation s.lit ∷ falses) x) e.1 (here (negation s.lit) falses)) (out_of o u))
    (λ o c. ⊎_elim (λ i. subst (λ x. Contains (lits_of steps) x) (sym (negated_twice s.lit) ∙ ap negation i) stands) (λ d. fal o d) (cons_cases (negation s.lit) falses o c)))))
    (λ b. rw b (conflicts_from held names clauses steps resolved conflict clause a con an rest (before ++ s ∷ []) falses seam (λ o u. ⊎_elim (λ h. out o h) (λ e. absurd (false≢true (sym b ∙ e.0))) (out_of o u)) fal))
    (cases_Bool (resolved s))
  where
    seam : steps ≡ before ++ s ∷ [] ++ rest
    seam = e ∙ sym (append_assoc before (s ∷ []) rest)

    -- one step more lets out what was out before, and the negation of its literal if it is resolved
    out_of : (o : LitValue) → IsOut resolved (before ++ s ∷ []) clause o → IsOut resolved before clause o ⊎ ((resolved s ≡ true) × (negation s.lit ≡ o))
    out_of o u = ⊎_elim
        (λ c. inl (inl c))
        (λ q. ⊎_elim
        (λ c. inl (inr (q.0, c, q.2, q.3)))
        (λ i. inr (ap resolved i ∙ q.2, ap (λ x. negation x.lit) i ∙ ap negation q.3 ∙ negated_twice o))
        (Contains-push_cases before s q.0 q.1))
        u

-- an analysis has its hints
pub hints_conflict : (held : List Entry) (names : List ℕ) (clauses : List (List LitValue)) (steps : List StepValue) (resolved : StepValue → Bool) (conflict : ℕ) (clause : List LitValue) → AreNamed held names clauses → IsConsistent (lits_of steps) → IsAnalysis clauses steps resolved conflict clause
    → Conflicts held clause (numbers_to names resolved steps conflict)
hints_conflict held names clauses steps resolved conflict clause a con an =
    conflicts_from held names clauses steps resolved conflict clause a con an steps [] clause refl
    (λ o u. ⊎_elim (λ c. c) (λ q. absurd (omega (arith, q.1.1))) u)
    an.falses

-- ---- the same as hints, none of which begins a group

pub leading_numbers : (names : List ℕ) (steps : List StepValue) (conflict : ℕ) → leading (map (name names) (map (λ s. pos (number_of s.reason)) steps ++ pos (conflict + 1) ∷ [])) ≡ map (λ s. name_of names s.reason) steps ++ get_or names (conflict + 1) 0 ∷ []
leading_numbers names [] conflict = refl
leading_numbers names (s ∷ steps) conflict = ap (λ ids. name_of names s.reason ∷ ids) (leading_numbers names steps conflict)

pub no_groups : (names : List ℕ) (steps : List StepValue) (conflict place : ℕ) → hint_groups_from place (map (name names) (map (λ s. pos (number_of s.reason)) steps ++ pos (conflict + 1) ∷ [])) ≡ []
no_groups names [] conflict place = refl
no_groups names (s ∷ steps) conflict place = no_groups names steps conflict (place + 1)

-- ---- each is a name

pub hints_names : (clauses : List (List LitValue)) (steps : List StepValue) (resolved : StepValue → Bool) (conflict : ℕ) (clause : List LitValue) (hints : List ℤ) (names : ℕ) → IsAnalysis clauses steps resolved conflict clause → hints ≡ hints_to resolved steps conflict → names ≡ length clauses + 1 → All (IsName names) hints
hints_names clauses steps resolved conflict clause hints names an is many =
    subst (λ n. All (IsName n) hints) (sym many) (subst (All (IsName places)) (sym is)
    (All-push (IsName places) (map hint kept) (pos (conflict + 1)) (All-map (IsName places) hint kept (all_contained (λ s. IsName places (hint s)) kept named)) (conflict + 1, refl, omega (arith, an.within))))
  where
    places : ℕ
    places = length clauses + 1

    kept : List StepValue
    kept = filter resolved steps

    hint : StepValue → ℤ
    hint s = pos (number_of s.reason)

    named : (s : StepValue) → Contains kept s → IsName places (hint s)
    named s c =
        let f = from_filter resolved steps s c in
        let g : get_or steps f.0.0 s ≡ s = f.0.2 in
        let r = an.each f.0.0 s f.0.1 (subst (λ x. resolved x ≡ true) (sym g) f.1) in
        (number_of s.reason, refl, omega (arith, r.within, ap number_of (ap (λ x. x.reason) (sym g) ∙ r.reason)))

-- ---- and so few

pub few_named : (names : List ℕ) (resolved : StepValue → Bool) (steps : List StepValue) (conflict : ℕ) → length (map (name names) (hints_to resolved steps conflict)) ≤ length steps + 1
few_named names resolved steps conflict = grind (arith, few_kept, length-map, length_push)
