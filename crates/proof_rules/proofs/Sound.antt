-- Where some assignment satisfies a formula, some assignment satisfies all that is held after any accepted lines, and no line refutes it.
use Rattle.std.proofs.{Common.{arith, ◌≡◌, ℕ, Bool, true, false, cond, List, [], ◌∷◌, Some, refl, sym, ◌∙◌, subst, ⊎_elim, ◌==◌, All}, lemmas.List.{Elements.{All-nil, All-cons, All-head, All-tail}, Folds.list_any_none}}
use Rattle.std.{proofs.lemmas.Bool.{false≢true, eqb-true}, specs.List.list_any}
use Rattle.cnf_formula.{specs.Literals.{LitValue, same_sign, has_literal, negation}, proofs.Clauses.same_is}
use Rattle.proof_rules.{specs.{Held.{Entry, clause_at}, Accepting.{IsFalse, Takes, LeadsTo, Conflicts, Group, has_negated, without_negated, is_made_true, Closes, Answers, is_answered}}, proofs.Taking.FalseOrIs}

pub none_any : {X : Type 0} (p : X → Bool) (xs : List X) → list_any p xs ≡ false → All (λ x. p x ≡ false) xs
none_any p [] h = All-nil (λ x. p x ≡ false)
none_any p (x ∷ xs) h = grind (arith, none_any p xs)

-- ---- one valuation of all variables

module _ (v : ℕ → Bool) where
  abbrev pub is_so : LitValue → Bool
  is_so l = same_sign l.positive (v l.var)

  abbrev pub holds : List LitValue → Bool
  holds clause = list_any is_so clause

  abbrev pub Holds : Entry → Type 0
  Holds entry = holds entry.1 ≡ true

  abbrev pub Untrue : LitValue → Type 0
  Untrue l = is_so l ≡ false

  pub found_holds : (held : List Entry) (id : ℕ) (clause : List LitValue) → All Holds held → clause_at held id ≡ Some clause → holds clause ≡ true
  found_holds [] id clause a h = absurd (cc)
  found_holds (entry ∷ held) id clause a h =
      grind (arith, All-head Holds entry held a, found_holds held id clause (All-tail Holds entry held a))

  pub false_is_untrue : (falses : List LitValue) (l : LitValue) → All Untrue falses → IsFalse falses l → Untrue l
  false_is_untrue [] l a h = absurd (false≢true h)
  false_is_untrue (x ∷ falses) l a h =
      grind (arith, same_is l x, All-head Untrue x falses a, false_is_untrue falses l (All-tail Untrue x falses a))

  one_is_so : (falses clause : List LitValue) (l : LitValue) → All Untrue falses → All (FalseOrIs falses l) clause → holds clause ≡ true → is_so l ≡ true
  one_is_so falses [] l a o h = absurd (false≢true h)
  one_is_so falses (x ∷ clause) l a o h =
      grind (arith, false_is_untrue falses x a, All-head (FalseOrIs falses l) x clause o, one_is_so falses clause l a (All-tail (FalseOrIs falses l) x clause o))

  negation_so : (l : LitValue) → Untrue (negation l) → is_so l ≡ true
  negation_so l h = grind arith

  takes_so : (held : List Entry) (falses : List LitValue) (id : ℕ) (l : LitValue) → All Holds held → All Untrue falses → Takes held falses id l → All Untrue (negation l ∷ falses)
  takes_so held falses id l h a t =
      grind (arith, one_is_so falses t.clause l a t.others (found_holds held id t.clause h t.names))

  pub no_conflict : (held : List Entry) (falses : List LitValue) (ids : List ℕ) → All Holds held → All Untrue falses → Conflicts held falses ids → ⊥
  no_conflict held falses [] h a c = c
  no_conflict held falses (id ∷ []) h a c =
      let clause_holds_it = found_holds held id c.clause h c.names in
      let each : All Untrue c.clause = λ k d w. false_is_untrue falses _ a (c.each k d w) in
      false≢true (sym (list_any_none is_so c.clause each) ∙ clause_holds_it)
  no_conflict held falses (id ∷ next ∷ ids) h a c = no_conflict held (negation c.0 ∷ falses) (next ∷ ids) h (takes_so held falses id c.0 h a c.1) c.2

  pub still_untrue : (last : List LitValue) (held : List Entry) (falses : List LitValue) (ids : List ℕ) → All Holds held → All Untrue falses → LeadsTo last held falses ids → All Untrue last
  still_untrue last held falses [] h a e = subst (All Untrue) e a
  still_untrue last held falses (id ∷ ids) h a t = still_untrue last held (negation t.0 ∷ falses) ids h (takes_so held falses id t.0 h a t.1) t.2

  -- a group shows that its literals are not all untrue
  pub never_closes : (held : List Entry) (ids : List ℕ) (falses ls : List LitValue) → All Holds held → All Untrue falses → All Untrue ls → Closes held ids falses ls → ⊥
  never_closes held ids falses [] h a u c = no_conflict held falses ids h a c
  never_closes held ids falses (l ∷ ls) h a u c =
      let here = All-head Untrue l ls u in
      ⊎_elim (λ t. false≢true (sym here ∙ negation_so l (false_is_untrue falses (negation l) a t)))
      (λ more. never_closes held ids (l ∷ falses) ls h (All-cons Untrue l falses here a) (All-tail Untrue l ls u) more) c

  -- ---- the valuation in which one literal is made true

  abbrev pub turned : LitValue → ℕ → Bool
  turned p n = cond (n == p.var) p.positive (v n)

module _ (v : ℕ → Bool) (p : LitValue) where
  abbrev w : ℕ → Bool
  w = turned v p

  -- a clause with such a literal holds then
  pub other_holds : (clause : List LitValue) → list_any (is_so v) (without_negated p clause) ≡ true → holds w clause ≡ true
  other_holds [] h = absurd (false≢true h)
  other_holds (l ∷ clause) h = grind (arith, other_holds clause)

  without_it : (clause : List LitValue) → has_negated p clause ≡ false → without_negated p clause ≡ clause
  without_it [] h = refl
  without_it (l ∷ clause) h = grind (arith, without_it clause)

  pub own_holds : (clause : List LitValue) → has_literal clause p ≡ true → holds w clause ≡ true
  own_holds [] h = absurd (false≢true h)
  own_holds (l ∷ clause) h = grind (arith, own_holds clause)

  module _ (held : List Entry) (start : List LitValue) (groups : List Group) (h : All (Holds v) held) (a : All (Untrue v) start) (answers : All (Answers held p start) groups) where
    made_so : (l : LitValue) → is_made_true start l ≡ true → is_so v l ≡ true
    made_so l t = negation_so v l (false_is_untrue v start (negation l) a t)

    some_so : (ls : List LitValue) → list_any (is_made_true start) ls ≡ true → list_any (is_so v) ls ≡ true
    some_so [] t = absurd (false≢true t)
    some_so (l ∷ ls) t = grind (arith, made_so l, some_so ls)

    closed_so : (ids : List ℕ) (clause : List LitValue) → Closes held ids start (without_negated p clause) → list_any (is_so v) (without_negated p clause) ≡ true
    closed_so ids clause c =
        grind (arith, never_closes v held ids start (without_negated p clause) h a, none_any (is_so v) (without_negated p clause))

    by_group : (gs : List Group) → All (Answers held p start) gs → (entry : Entry) → clause_at held entry.0 ≡ Some (entry.1) → list_any (λ group. group.named == entry.0) gs ≡ true → list_any (is_so v) (without_negated p entry.1) ≡ true
    by_group [] r entry found t = absurd (false≢true t)
    by_group (g ∷ gs) r entry found t =
        let one = All-head (Answers held p start) g gs r in
        grind (arith, eqb-true g.named entry.0, one.names, closed_so g.hints one.clause one.closes, by_group gs (All-tail (Answers held p start) g gs r) entry found)

    pub entry_holds : (entry : Entry) → clause_at held entry.0 ≡ Some (entry.1) → Holds v entry → is_answered p start groups entry ≡ true → Holds w entry
    entry_holds entry found so answered = grind (arith, other_holds, without_it, by_group, some_so)
