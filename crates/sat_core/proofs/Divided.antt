-- Some clauses of a core make another, and the others fall asleep: what is held stays held.
use Rattle.std.proofs.{Common.{◌≡◌, ℕ, ◌+◌, ◌<◌, ◌≤◌, true, List, [], ◌∷◌, ◌++◌, length, get_or, sym, ap, ◌∙◌, subst, inl, inr, ⊎_elim, arith, ◌⊎◌, ◌≢◌, AllPairs, Contains, below_more}, lemmas.Bool.cases_lt}
use Rattle.std.proofs.lemmas.List.{get_or_append_left, get_or_push, length_push, get_or_default, Elements.{Contains-push, Contains-append_left}}
use Rattle.cnf_formula.specs.{Literals.LitValue, Formulas.FormulaValue, Lines.ProofLineValue}
use Rattle.ledger_rules.specs.Logs.{checker_of}
use Rattle.trail_core.specs.Meaning.{CoreValue}
use Rattle.sleeping_clauses.specs.{declared.awake.Awake.Awake, Sleeping.{SleepersValue, IsAsleep}}
use Rattle.sat_core.{specs.{inner.Dividing.IsDividing, Ready.IsReady}, proofs.{Asleep.{pushed_stays, pushed_sleeps, asleep_more}, Readiness.{among_moved, named_more, listed_more, ready_moved}}}

-- the next clause stays awake
pub dividing_awake : (clauses : List (List LitValue)) (names : List ℕ) (formula : ℕ) (before : SleepersValue) (k : ℕ) (left left' : List (List LitValue)) (awake awake' : Awake) (now : SleepersValue) (id : ℕ) → IsDividing clauses names formula before k left awake now → k < length clauses
    → left' ≡ left ++ get_or clauses k [] ∷ [] → id ≡ length left → awake'.ids.items ≡ awake.ids.items ++ id ∷ [] → awake'.names.items ≡ awake.names.items ++ get_or names (k + 1) 0 ∷ [] → AllPairs (λ a b. a ≢ b) (get_or clauses k [])
    → IsDividing clauses names formula before (k + 1) left' awake' now
dividing_awake clauses names formula before k left left' awake awake' now id d w cs at ids ns once =
    let clause = get_or clauses k [] in
    let n : length left' ≡ length left + 1 = ap length cs ∙ length_push left clause in
    record {
      listed = listed_more left left' clause awake awake' id (get_or names (k + 1) 0) d.listed cs at ids ns once;
      named = λ held a. named_more held awake.names.items awake'.names.items left left' clause (get_or names (k + 1) 0) (d.named held a) d.listed.names cs ns (a k w);
      asleep = d.asleep;
      all = below_more (λ j. Contains left' (get_or clauses j []) ⊎ IsAsleep now (get_or clauses j [])) k
          (λ j lt. ⊎_elim (λ c. inl (subst (λ xs. Contains xs (get_or clauses j [])) (sym cs) (Contains-append_left left (clause ∷ []) (get_or clauses j []) c))) (λ s. inr s) (d.all j lt))
          (inl (subst (λ xs. Contains xs clause) (sym cs) (Contains-push left clause)));
      stay = d.stay;
      few = λ v. grind (arith, d.few, n);
      many = λ v. grind (arith, cases_lt k formula, d.few, d.many, n);
      first = λ j u v. grind (arith, cs, n, cases_lt j k, cases_lt k formula, d.first j u, d.few, d.many, get_or_append_left left (clause ∷ []) [] j, get_or_push left clause [] j);
    }

-- the next clause, which is none of the formula, falls asleep
pub dividing_asleep : (clauses : List (List LitValue)) (names : List ℕ) (formula : ℕ) (before : SleepersValue) (k : ℕ) (left : List (List LitValue)) (awake : Awake) (now now' : SleepersValue) → IsDividing clauses names formula before k left awake now → k < length clauses → formula ≤ k
    → length now.numbers ≡ length now.clauses → length now.asleep ≡ length now.clauses → now' ≡ record { vars = now.vars; clauses = now.clauses ++ get_or clauses k [] ∷ []; numbers = now.numbers ++ get_or names (k + 1) 0 ∷ []; asleep = now.asleep ++ true ∷ [] }
    → IsDividing clauses names formula before (k + 1) left awake now'
dividing_asleep clauses names formula before k left awake now now' d w learned numbers flags e =
    let clause = get_or clauses k [] in
    let cs = ap (λ s. s.clauses) e in
    let ns = ap (λ s. s.numbers) e in
    let bs = ap (λ s. s.asleep) e in
    let more : (c : List LitValue) → IsAsleep now c → IsAsleep now' c = pushed_stays now now' clause flags cs bs in
    record {
      listed = d.listed;
      named = d.named;
      asleep = λ held a s. asleep_more held now now' clause (get_or names (k + 1) 0) numbers cs ns (d.asleep held a s) (a k w);
      all = below_more (λ j. Contains left (get_or clauses j []) ⊎ IsAsleep now' (get_or clauses j [])) k (λ j lt. ⊎_elim (λ c. inl c) (λ s. inr (more (get_or clauses j []) s)) (d.all j lt)) (inr (pushed_sleeps now now' clause flags cs bs));
      stay = λ c s. more c (d.stay c s);
      few = λ v. absurd (omega (arith, v, learned));
      many = λ v. d.many learned;
      first = λ j u v. d.first j u (omega (arith, u, learned));
    }

-- when all were divided, the search is ready with what is left
pub ready_divided : (base : FormulaValue) (lines : List ProofLineValue) (core core' : CoreValue) (awake awake' : Awake) (s s' : SleepersValue) → IsReady base lines core awake s → IsDividing core.clauses awake.names.items awake.formula s (length core.clauses) core'.clauses awake' s' → core'.vars ≡ core.vars → awake'.formula ≡ awake.formula → awake'.held ≡ awake.held
    → IsReady base lines core' awake' s'
ready_divided base lines core core' awake awake' s s' r d vars formula held =
    let a = r.holding.agree.held in
    let h = (checker_of base lines).held in
    let own = r.holding.own in
    let within = r.holding.within in
    ready_moved base lines core core' awake awake' s s' r vars formula held
    (record {
      named = d.named h a.named;
      asleep = d.asleep h a.named a.asleep;
      only = among_moved h core.clauses core'.clauses s s' (λ x. ⊎_elim (λ c. subst (λ y. Contains core'.clauses y ⊎ IsAsleep s' y) (get_or_default core.clauses c.0 [] x c.1 ∙ c.2) (d.all c.0 c.1)) (λ c. inr (d.stay x c))) a.only;
    })
    (grind (arith, own, within, d.many))
    (λ k w. d.first k (omega (arith, w, own)) (omega (arith, w, within)))
