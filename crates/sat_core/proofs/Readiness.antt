-- A line that is accepted and added leaves the search ready.
use Rattle.std.proofs.Common.{◌≡◌, ℕ, ◌+◌, ◌<◌, ◌≤◌, true, List, [], ◌∷◌, ◌++◌, false, get_or, set, length, refl, sym, ap, ◌∙◌, subst, inl, inr, ⊎_elim, arith, eq-eqb, ◌≢◌, ◌⊎◌, All, AllPairs, Contains, Some, map}
use Rattle.std.proofs.lemmas.{Bool.{ne_eqb, or_right, cases_lt}, List.{get_or_append_left, length_push, Elements.{Contains-push, Contains-push_cases, Contains-append_left, All-head, All-tail, All-push}, get_or_push}}
use Rattle.cnf_formula.specs.{Literals.LitValue, Formulas.FormulaValue, Lines.ProofLineValue, declared.line.LratLine.TheVariants.Addition}
use Rattle.proof_rules.specs.{declared.verdict.LineVerdict.TheVariants.Accepted as AcceptedVerdict, Held.{Entry, CheckerValue, start_of, clause_at}, Judging.verdict_of, Refuting.{is_fresh, with_line, after_lines, Refutes}}
use Rattle.proof_rules.{specs.Learning.AllFresh, proofs.{InTurn.{after_more, implied_more, implied_accepted}, Kept.keeps_append}}
use Rattle.ledger_rules.specs.Logs.{checker_of}
use Rattle.trail_core.specs.Meaning.{CoreValue}
use Rattle.sat_core.{specs.{inner.Holding.{IsSame, IsHeldAs, AreNamed, AreAmongOr, AreHeld, IsNext}, Ready.{AreNumbered, AreWritten, IsHolding, IsReady}}, proofs.{Asleep.woken_stays, Members.both_more}}
use Rattle.sleeping_clauses.specs.{Naming.IsListed, Sleeping.{SleepersValue, IsAsleep}, declared.awake.Awake.Awake}
use Rattle.list_laws.proofs.Places.{by_place_push}

-- ---- one line more

pub fresh_more : (lines : List ProofLineValue) (c : CheckerValue) (line : ProofLineValue) → AllFresh c lines → is_fresh (after_lines c (map Addition lines)) line.lits ≡ true → AllFresh c (lines ++ line ∷ [])
fresh_more [] c line a f = (f, tt)
fresh_more (l ∷ lines) c line a f = (a.0, fresh_more lines (with_line c l) line a.1 f)

numbered_more : (many : ℕ) (lines : List ProofLineValue) (line : ProofLineValue) → AreNumbered many lines → line.id ≡ many + 1 + length lines → AreNumbered many (lines ++ line ∷ [])
numbered_more many lines line a e k d w = by_place_push (λ j l. l.id ≡ many + 1 + j) lines line d (λ j v. a j d v) e k w

-- the last of what is held, where all numbers before it are smaller
found_last : (held : List Entry) (n : ℕ) (clause : List LitValue) → All (λ entry. entry.0 < n) held → clause_at (held ++ (n, clause) ∷ []) n ≡ Some clause
found_last [] n clause a = rw (eq-eqb n n refl) refl
found_last (entry ∷ held) n clause a =
    let h = All-head (λ e. e.0 < n) entry held a in
    rw (ne_eqb entry.0 n (λ e. omega (arith, e, h))) (found_last held n clause (All-tail (λ e. e.0 < n) entry held a))

-- the numbers below are below another
below_more : (n n' : ℕ) (held : List Entry) → n ≤ n' → All (λ entry. entry.0 ≤ n) held → All (λ entry. entry.0 ≤ n') held
below_more n n' held w a = λ k d v. let b = a k d v in omega (arith, b, w)

-- a clause that is held under a number is held under it still
kept_as : (held : List Entry) (entry : Entry) (number : ℕ) (lits : List LitValue) → IsHeldAs held number lits → IsHeldAs (held ++ entry ∷ []) number lits
kept_as held entry number lits h = (h.0, keeps_append held (entry ∷ []) number h.0 h.1, h.2)

-- a core with one clause more
pub named_more : (held : List Entry) (names names' : List ℕ) (clauses clauses' : List (List LitValue)) (clause : List LitValue) (number : ℕ) → AreNamed held names clauses → length names ≡ length clauses + 1 → clauses' ≡ clauses ++ clause ∷ [] → names' ≡ names ++ number ∷ [] → IsHeldAs held number clause → AreNamed held names' clauses'
named_more held names names' clauses clauses' clause number a len cs ns h =
    both_more (IsHeldAs held) (λ id. id + 1) names names' clauses clauses' number 0 clause [] ns cs (λ id v. omega (arith, v, len)) (sym len) a h

pub listed_more : (clauses clauses' : List (List LitValue)) (clause : List LitValue) (awake awake' : Awake) (id number : ℕ) → IsListed clauses awake → clauses' ≡ clauses ++ clause ∷ [] → id ≡ length clauses → awake'.ids.items ≡ awake.ids.items ++ id ∷ [] → awake'.names.items ≡ awake.names.items ++ number ∷ [] → AllPairs (λ a b. a ≢ b) clause
    → IsListed clauses' awake'
listed_more clauses clauses' clause awake awake' id number l cs at ids names once = grind (arith, length_push, get_or_append_left, get_or_push, cases_lt)

held_more : (held : List Entry) (names names' : List ℕ) (clauses clauses' : List (List LitValue)) (s : SleepersValue) (clause : List LitValue) (number : ℕ) → AreHeld held names clauses s → All (λ entry. entry.0 < number) held → length names ≡ length clauses + 1 → clauses' ≡ clauses ++ clause ∷ [] → names' ≡ names ++ number ∷ []
    → AreHeld (held ++ (number, clause) ∷ []) names' clauses' s
held_more held names names' clauses clauses' s clause number a below len cs ns = record {
  named = named_more (held ++ (number, clause) ∷ []) names names' clauses clauses' clause number (λ id w. kept_as held (number, clause) (get_or names (id + 1) 0) (get_or clauses id []) (a.named id w)) len cs ns (clause, found_last held number clause below, record { into = λ l c. c; from = λ l c. c });
  asleep = λ place w. kept_as held (number, clause) (get_or s.numbers place 0) (get_or s.clauses place []) (a.asleep place w);
  only = λ entry c. ⊎_elim
      (λ d. let o = a.only entry d in (o.0, ⊎_elim (λ v. inl (subst (λ xs. Contains xs o.0) (sym cs) (Contains-append_left clauses (clause ∷ []) o.0 v))) (λ v. inr v) o.1, o.2))
      (λ e. (clause, inl (subst (λ xs. Contains xs clause) (sym cs) (Contains-push clauses clause)), subst (λ x. IsSame x clause) (ap (λ y. y.1) e) (record { into = λ l d. d; from = λ l d. d })))
      (Contains-push_cases held (number, clause) entry c);
}

-- what a search has after a line: one clause more, under its number
pub record IsGrown (core core' : CoreValue) (awake awake' : Awake) (line : ProofLineValue) : Type 0 where
  pub vars : core'.vars ≡ core.vars
  pub clauses : core'.clauses ≡ core.clauses ++ line.lits ∷ []
  pub names : awake'.names.items ≡ awake.names.items ++ (awake.held + 1) ∷ []
  pub formula : awake'.formula ≡ awake.formula
  pub held : awake'.held ≡ awake.held + 1

holding_more : (base : FormulaValue) (c : CheckerValue) (core core' : CoreValue) (awake awake' : Awake) (s : SleepersValue) (line : ProofLineValue) → IsHolding base c core awake s → IsListed core.clauses awake → line.id ≡ awake.held + 1 → IsGrown core core' awake awake' line → IsHolding base (with_line c line) core' awake' s
holding_more base c core core' awake awake' s line h l e g =
    let n : length core'.clauses ≡ length core.clauses + 1 = ap length g.clauses ∙ length_push core.clauses line.lits in
    let below : All (λ entry. entry.0 < awake.held + 1) c.held = λ k d w. let b = h.below k d w in omega (arith, b) in
    let held : AreHeld (c.held ++ (line.id, line.lits) ∷ []) awake'.names.items core'.clauses s = subst (λ i. AreHeld (c.held ++ (i, line.lits) ∷ []) awake'.names.items core'.clauses s) (sym e) (held_more c.held awake.names.items awake'.names.items core.clauses core'.clauses s line.lits (awake.held + 1) h.agree.held below l.names g.clauses g.names) in
    record {
      agree = record { vars = omega (arith, g.vars, h.agree.vars); held = held };
      formula = h.formula;
      below = All-push (λ entry. entry.0 ≤ awake'.held) c.held (line.id, line.lits) (below_more awake.held awake'.held c.held (omega (arith, g.held)) h.below) (omega (arith, e, g.held));
      greatest = omega (arith, e, g.held);
      many = omega (arith, h.many, g.held);
      own = g.formula ∙ h.own;
      within = omega (arith, h.within, n);
      first = λ k w. subst (IsSame (get_or base.clauses k [])) (sym (ap (λ xs. get_or xs k []) g.clauses ∙ get_or_append_left core.clauses (line.lits ∷ []) [] k (omega (arith, w, h.within)))) (h.first k w);
    }

-- ---- ready

pub next_number : (base : FormulaValue) (lines : List ProofLineValue) (core : CoreValue) (awake : Awake) (s : SleepersValue) (id : ℕ) → IsReady base lines core awake s → id ≡ awake.held + 1 → IsNext (checker_of base lines) id
next_number base lines core awake s id r e = grind arith

pub written_more : (base : FormulaValue) (lines : List ProofLineValue) (core : CoreValue) (awake : Awake) (s : SleepersValue) (line : ProofLineValue) → IsReady base lines core awake s → verdict_of (checker_of base lines) line ≡ AcceptedVerdict true → line.id ≡ awake.held + 1 → length line.hints ≤ base.vars + 1 → AreWritten base (lines ++ line ∷ [])
written_more base lines core awake s line r v e short = record {
  implied = implied_more lines (start_of base) line r.written.implied v;
  numbered = numbered_more (length base.clauses) lines line r.written.numbered (omega (arith, e, r.count));
  short = All-push (λ l. length l.hints ≤ base.vars + 1) lines line r.written.short short;
}

pub ready_more : (base : FormulaValue) (lines : List ProofLineValue) (core core' : CoreValue) (awake awake' : Awake) (s : SleepersValue) (line : ProofLineValue) → IsReady base lines core awake s → IsListed core.clauses awake → AreWritten base (lines ++ line ∷ []) → is_fresh (checker_of base lines) line.lits ≡ true → line.id ≡ awake.held + 1 → IsGrown core core' awake awake' line
    → IsReady base (lines ++ line ∷ []) core' awake' s
ready_more base lines core core' awake awake' s line r l w f e g = record {
  holding = subst (λ c. IsHolding base c core' awake' s) (sym (after_more lines (start_of base) line)) (holding_more base (checker_of base lines) core core' awake awake' s line r.holding l e g);
  written = w;
  fresh = fresh_more lines (start_of base) line r.fresh f;
  count = omega (arith, r.count, g.held, length_push lines line);
}

pub refuted_by : (base : FormulaValue) (lines : List ProofLineValue) (line : ProofLineValue) → AreWritten base (lines ++ line ∷ []) → line.lits ≡ [] → Refutes (map Addition (lines ++ line ∷ [])) base
refuted_by base lines line w e = grind (arith, implied_accepted, after_more, or_right)

-- what is held is one of the core or sleeps, where each that was one or slept is or does
pub among_moved : (held : List Entry) (clauses clauses' : List (List LitValue)) (s s' : SleepersValue) → ((x : List LitValue) → Contains clauses x ⊎ IsAsleep s x → Contains clauses' x ⊎ IsAsleep s' x) → AreAmongOr held clauses s → AreAmongOr held clauses' s'
among_moved held clauses clauses' s s' on a entry i = let o = a entry i in (o.0, on o.0 o.1, o.2)

-- what is held stays so where other clauses of it sleep
pub ready_moved : (base : FormulaValue) (lines : List ProofLineValue) (core core' : CoreValue) (awake awake' : Awake) (s s' : SleepersValue) → IsReady base lines core awake s → core'.vars ≡ core.vars → awake'.formula ≡ awake.formula → awake'.held ≡ awake.held → AreHeld (checker_of base lines).held awake'.names.items core'.clauses s'
    → length base.clauses ≤ length core'.clauses → ((k : ℕ) → k < length base.clauses → get_or core'.clauses k [] ≡ get_or core.clauses k []) → IsReady base lines core' awake' s'
ready_moved base lines core core' awake awake' s s' r vars formula held are many first = grind (arith, below_more)

-- other steps leave the search ready
pub ready_same : (base : FormulaValue) (lines : List ProofLineValue) (core core' : CoreValue) (awake awake' : Awake) (s : SleepersValue) → IsReady base lines core awake s → core'.vars ≡ core.vars → core'.clauses ≡ core.clauses → awake'.names ≡ awake.names → awake'.formula ≡ awake.formula → awake'.held ≡ awake.held → IsReady base lines core' awake' s
ready_same base lines core core' awake awake' s r vars clauses names formula held = grind (arith, ready_moved)

-- ---- a clause that slept is woken

pub ready_woken : (base : FormulaValue) (lines : List ProofLineValue) (core core' : CoreValue) (awake awake' : Awake) (s s' : SleepersValue) (place : ℕ) → IsReady base lines core awake s → IsListed core.clauses awake → place < length s.clauses → core'.vars ≡ core.vars → core'.clauses ≡ core.clauses ++ get_or s.clauses place [] ∷ []
    → awake'.names.items ≡ awake.names.items ++ get_or s.numbers place 0 ∷ [] → awake'.formula ≡ awake.formula → awake'.held ≡ awake.held → s' ≡ record s { asleep = set s.asleep place false }
    → IsReady base lines core' awake' s'
ready_woken base lines core core' awake awake' s s' place r l w vars clauses names formula held woken =
    let c = checker_of base lines in
    let clause = get_or s.clauses place [] in
    let number = get_or s.numbers place 0 in
    let a = r.holding.agree.held in
    let cs : s'.clauses ≡ s.clauses = ap (λ x. x.clauses) woken in
    let ns : s'.numbers ≡ s.numbers = ap (λ x. x.numbers) woken in
    let bs : s'.asleep ≡ set s.asleep place false = ap (λ x. x.asleep) woken in
    ready_moved base lines core core' awake awake' s s' r vars formula held
    (record {
      named = named_more c.held awake.names.items awake'.names.items core.clauses core'.clauses clause number a.named l.names clauses names (a.asleep place w);
      asleep = λ k v. subst (λ xs. IsHeldAs c.held (get_or s'.numbers k 0) (get_or xs k [])) (sym cs) (subst (λ xs. IsHeldAs c.held (get_or xs k 0) (get_or s.clauses k [])) (sym ns) (a.asleep k (subst (λ xs. k < length xs) cs v)));
      only = among_moved c.held core.clauses core'.clauses s s' (λ x. ⊎_elim
          (λ v. inl (subst (λ xs. Contains xs x) (sym clauses) (Contains-append_left core.clauses (clause ∷ []) x v)))
          (λ v. ⊎_elim (λ u. inr u) (λ e. inl (subst (λ xs. Contains xs x) (sym clauses) (subst (Contains (core.clauses ++ clause ∷ [])) e (Contains-push core.clauses clause)))) (woken_stays s s' place cs bs x v))) a.only;
    })
    (omega (arith, r.holding.within, ap length clauses, length_push core.clauses clause))
    (λ k v. ap (λ xs. get_or xs k []) clauses ∙ get_or_append_left core.clauses (clause ∷ []) [] k (omega (arith, v, r.holding.within)))
