-- Held clauses of which every literal stands in a clause.
use Rattle.std.proofs.lemmas.{Bool.{Decides.nat_tests, false≢true, cases_Bool, or_parts}, List.{get_or_default, Elements.All-contains}}
use Rattle.std.proofs.{Common.{◌≡◌, ℕ, suc, ◌<◌, Bool, true, false, List, [], ◌∷◌, length, get_or, refl, sym, ap, ◌∙◌, ⊎_elim, arith, ◌||◌, Contains}, lemmas.{List.Sums.AllPass-from_list_all, Map.Views.Contains-from_any}}
use Rattle.std.specs.List.{list_any}
use Rattle.cnf_formula.{specs.Literals.{LitValue, has_literal, is_superset, code_of}, proofs.Clauses.same_is}
use Rattle.lrat_checker.{specs.{inner.Leads.{signature_of, IsLead}, declared.leads.LedClause.LedClause, Stored.{list_at, led_as, IsLed, held_of, finds}}, proofs.{Signed.signature_within, Placed.live_within}}
use Rattle.proof_rules.specs.Held.{Entry}

-- ---- a test of what is held, by places

module _ (test : Entry → Bool) where
  pub any_by_place : (ids : List ℕ) (live : List Bool) (clauses : List (List LitValue)) (k : ℕ) → length live ≡ length ids → length clauses ≡ length ids → k < length ids → get_or live k false ≡ true → test (get_or ids k 0, get_or clauses k []) ≡ true → list_any test (held_of ids live clauses) ≡ true
  any_by_place (x ∷ ids) (b ∷ live) (c ∷ clauses) (suc k) l m w t f = grind (arith, any_by_place ids live clauses k (omega (arith, l)) (omega (arith, m)) (omega (arith, w)) t f)
  any_by_place ids live clauses k l m w t f = grind (arith, nat_tests)

  pub none_by_place : (ids : List ℕ) (live : List Bool) (clauses : List (List LitValue)) → ((k : ℕ) → k < length ids → get_or live k false ≡ true → test (get_or ids k 0, get_or clauses k []) ≡ false) → list_any test (held_of ids live clauses) ≡ false
  none_by_place (x ∷ ids) (b ∷ live) (c ∷ clauses) h = grind (arith, h 0 (omega arith), none_by_place ids live clauses (λ k w t. h (suc k) (omega (arith, w)) t))
  none_by_place ids live clauses h = refl

-- ---- a member of a list that passes, and one that can't

some_passes : {A : Type 0} (test : A → Bool) (d : A) (xs : List A) → list_any test xs ≡ true → (j : ℕ) × (j < length xs) × (test (get_or xs j d) ≡ true)
some_passes test d [] h = absurd (false≢true h)
some_passes test d (x ∷ xs) h =
    ⊎_elim (λ t. (0, omega arith, t))
    (λ f.
    let later : list_any test xs ≡ true = sym (ap (λ b. b || list_any test xs) f) ∙ h in
    let (j, w, t) = some_passes test d xs later in
    (suc j, omega (arith, w), t))
    (cases_Bool (test x))

none_passes : {A : Type 0} (test : A → Bool) (d : A) (xs : List A) → list_any test xs ≡ false → (j : ℕ) → j < length xs → test (get_or xs j d) ≡ false
none_passes test d (x ∷ xs) h (suc j) w = none_passes test d xs (or_parts (test x) (list_any test xs) h).1 j (omega (arith, w))
none_passes test d xs h j w = grind (arith, nat_tests)

-- ---- what is held by a table

module _ (lits : List LitValue) (ids : List ℕ) (live : List Bool) (clauses : List (List LitValue)) (l : length live ≡ length ids) (m : length clauses ≡ length ids) where
  abbrev subset : Entry → Bool
  subset entry = is_superset lits entry.1

  abbrev test : LedClause → Bool
  test = finds live clauses lits (signature_of lits)

  -- where nothing is led
  nothing : LedClause
  nothing = record { place = 0; signature = 0 }

  held_within : (k : ℕ) → get_or live k false ≡ true → k < length ids
  held_within k t = omega (arith, live_within live k t, l)

  pub one_covered : (list : List LedClause) → list_any test list ≡ true → list_any subset (held_of ids live clauses) ≡ true
  one_covered list h =
      let (j, w, t) = some_passes test nothing list h in
      let k = (get_or list j nothing).place in
      let held : get_or live k false ≡ true = grind arith in
      any_by_place subset ids live clauses k l m (held_within k held) held (grind arith)

  covered_at : (list : List LedClause) (k : ℕ) → list_any test list ≡ false → Contains list (led_as k (get_or clauses k [])) → get_or live k false ≡ true → is_superset lits (get_or clauses k []) ≡ false
  covered_at list k none (j, w, at) t = grind (arith, none_passes test nothing list none j w, get_or_default, signature_within lits (get_or clauses k []))

  -- what leads a clause of which every literal stands among these leads nothing that is held
  none_led : (leads : List (List LedClause)) → list_any test (list_at leads 0) ≡ false → ((x : LitValue) → has_literal lits x ≡ true → list_any test (list_at leads (code_of x)) ≡ false)
      → (c : List LitValue) (code : ℕ) → IsLead c code → is_superset lits c ≡ true → list_any test (list_at leads code) ≡ false
  none_led leads first each [] code e s = ap (λ n. list_any test (list_at leads n)) e ∙ first
  none_led leads first each (x ∷ xs) code (l, has, e) s =
      ap (λ n. list_any test (list_at leads n)) e ∙ each l (All-contains (λ y. has_literal lits y ≡ true) (x ∷ xs) l (AllPass-from_list_all (has_literal lits) (x ∷ xs) s) (Contains-from_any same_is l (x ∷ xs) has))

  -- it is enough to look at the first list and at those of the literals
  pub none_covered : (vars : ℕ) (leads : List (List LedClause)) → IsLed vars clauses leads → list_any test (list_at leads 0) ≡ false → ((x : LitValue) → has_literal lits x ≡ true → list_any test (list_at leads (code_of x)) ≡ false)
      → list_any subset (held_of ids live clauses) ≡ false
  none_covered vars leads i first each = none_by_place subset ids live clauses one
    where
      one : (k : ℕ) → k < length ids → get_or live k false ≡ true → is_superset lits (get_or clauses k []) ≡ false
      one k w t =
          let (code, lead, at) = i.each k (omega (arith, w, m)) in
          ⊎_elim (λ y. covered_at (list_at leads code) k (none_led leads first each (get_or clauses k []) code lead y) at t) (λ n. n) (cases_Bool (is_superset lits (get_or clauses k [])))
