-- A turn at a conflict, over plain values.
use Rattle.std.proofs.{Common.{◌≡◌, ℕ, Bool, eqb, ◌+◌, ◌-◌, ◌<◌, ◌≤◌, true, List, [], ◌∷◌, ◌++◌, length, get_or, take, sym, ap, ◌∙◌, subst, ⊎_elim, arith, map, false, Contains, AllPairs, ◌≢◌}, lemmas.Bool.{cases_lt, eqb-false}}
use Rattle.cnf_formula.specs.{Formulas.{FormulaValue, IsClause}, Literals.LitValue, Lines.ProofLineValue, declared.line.LratLine.TheVariants.Addition}
use Rattle.proof_rules.specs.{declared.verdict.LineVerdict.TheVariants.Accepted, Held.CheckerValue, Judging.verdict_of, Refuting.{is_fresh, Refutes}}
use Rattle.ledger_rules.specs.Logs.{checker_of}
use Rattle.trail_core.specs.Meaning.{CoreValue, trues, IsClosed}
use Rattle.conflict_analysis.specs.{Conflicts.IsConflict, Learned.IsLearned, Met.IsRested}
use Rattle.sat_core.specs.{inner.{Holding.{Agree, IsNext}, Turning.IsTurn, Jumping.IsBacked, Guided.IsGuided}, declared.guide.Guide.Guide, Ready.{AreWritten, IsOver}}
use Rattle.sat_core.proofs.{AtConflict.{line_accepted, line_short, no_line_closes}, Fresh.unit_is_fresh, Readiness.{IsGrown, next_number, written_more, refuted_by, listed_more}, Jumping.{pointed_unit, learned_backed, backed_within}}
use Rattle.sleeping_clauses.specs.{Naming.{IsNamed, IsListed}, Sleeping.{SleepersValue, IsAsleep, HasNone, AreFew}, declared.awake.Awake.Awake}

-- what is learned is accepted, short, and fresh above level 0
pub learned_accepted : (c : CheckerValue) (core : CoreValue) (names : List ℕ) (held : ℕ) (s : SleepersValue) (conflict : ℕ) (learned line : ProofLineValue) → Agree c core names s → IsConflict core conflict → IsLearned core conflict learned → IsNamed names held learned line → IsNext c line.id → verdict_of c line ≡ Accepted true
learned_accepted c core names held s conflict learned line a k l d n = line_accepted c core names held s l.resolved conflict learned line a k.formed l.analysis l.once l.hints d n

pub learned_short : (core : CoreValue) (names : List ℕ) (held conflict : ℕ) (learned line : ProofLineValue) → IsConflict core conflict → IsLearned core conflict learned → IsNamed names held learned line → length line.hints ≤ core.vars + 1
learned_short core names held conflict learned line k l d =
    let short = line_short core names held l.resolved conflict learned line l.hints d in
    omega (arith, short, k.formed.few)

pub learned_fresh : (c : CheckerValue) (core : CoreValue) (names : List ℕ) (s : SleepersValue) (conflict : ℕ) (learned : ProofLineValue) → Agree c core names s → HasNone s learned.lits → IsConflict core conflict → 0 < length core.limits → IsLearned core conflict learned → is_fresh c learned.lits ≡ true
learned_fresh c core names s conflict learned a none k above l =
    let last = length core.limits - 1 in
    let e : last + 1 ≡ length core.limits = omega (arith, above) in
    let p = l.points above in
    unit_is_fresh c core.clauses s (take (get_or core.limits last 0) (trues core)) learned.lits p.point a.held.only none (k.closed_below last (omega (arith, above))) (pointed_unit core learned.lits last p e)

module _ {base : FormulaValue} {lines : List ProofLineValue} {core : CoreValue} {awake : Awake} {s : SleepersValue} {conflict : ℕ} {line : ProofLineValue} (t : IsTurn base lines core awake s conflict line) where
  pub turn_accepted : verdict_of (checker_of base lines) line ≡ Accepted true
  turn_accepted = learned_accepted (checker_of base lines) core awake.names.items awake.held s conflict t.learned line t.ready.holding.agree t.conflicts t.is t.named (next_number base lines core awake s line.id t.ready t.named.id)

  turn_short : length line.hints ≤ base.vars + 1
  turn_short =
      let short = learned_short core awake.names.items awake.held conflict t.learned line t.conflicts t.is t.named in
      omega (arith, short, t.ready.holding.agree.vars, ap (λ f. f.vars) t.ready.holding.formula)

  pub turn_written : AreWritten base (lines ++ line ∷ [])
  turn_written = written_more base lines core awake s line t.ready turn_accepted t.named.id turn_short

  pub turn_refuted : line.lits ≡ [] → Refutes (map Addition (lines ++ line ∷ [])) base
  turn_refuted e = refuted_by base lines line turn_written e

  module _ (some : 0 < length line.lits) where
    pub turn_above : 0 < length core.limits
    turn_above = ⊎_elim (λ h. h) (λ z. absurd (let n = ap length (t.named.lits ∙ t.is.closes (omega (arith, z))) in omega (arith, n, some))) (cases_lt 0 (length core.limits))

    -- no clause that sleeps states it: so it is fresh
    pub turn_fresh : HasNone s line.lits → is_fresh (checker_of base lines) line.lits ≡ true
    turn_fresh none =
        let e = t.named.lits in
        subst (λ ls. is_fresh (checker_of base lines) ls ≡ true) (sym e) (learned_fresh (checker_of base lines) core awake.names.items s conflict t.learned t.ready.holding.agree (subst (HasNone s) e none) t.conflicts turn_above t.is)

    -- where the clauses that sleep rest on level 0 the search may end
    pub turn_over : ((clause : List LitValue) → IsAsleep s clause → IsClosed (take (get_or core.limits 0 0) (trues core)) (clause ∷ [])) → IsOver base lines
    turn_over rest = record {
      not_closed = no_line_closes (checker_of base lines) core awake.names.items s conflict t.ready.holding.agree rest t.conflicts turn_above;
      fresh = t.ready.fresh;
    }

    pub turn_backed : IsBacked core line.lits
    turn_backed = subst (IsBacked core) (sym t.named.lits) (learned_backed core conflict t.learned turn_above t.is)

    pub turn_about : (vars : ℕ) → vars ≡ core.vars → IsClause vars line.lits
    turn_about vars e = subst (λ n. IsClause n line.lits) (sym e) (backed_within core line.lits t.conflicts.formed turn_backed)

-- the clauses that sleep, of which by place none has its literals in a clause
pub none_by : (s : SleepersValue) (read clause : List LitValue) → read ≡ clause → ((place : ℕ) → place < length s.clauses → get_or s.asleep place false ≡ true → ((l : LitValue) → Contains (get_or s.clauses place []) l → Contains read l) → ⊥) → HasNone s clause
none_by s read clause is none = λ other a sub. none a.0 a.1.within a.1.asleep (λ l c. subst (λ xs. Contains xs l) (sym is) (sub l (subst (λ xs. Contains xs l) a.2 c)))

pub not_empty : {n : ℕ} {empty : Bool} (lits : List LitValue) → empty ≡ eqb n 0 → empty ≡ false → n ≡ length lits → 0 < length lits
not_empty {n} lits is full len = ⊎_elim (λ w. w) (λ z. absurd (eqb-false n 0 (sym is ∙ full) (omega (arith, z, len)))) (cases_lt 0 (length lits))

-- ---- what is kept beside the core

pub guided_more : (core core' : CoreValue) (guide : Guide) → IsRested core.vars guide.walk.stamp guide.walk.marks.items → guide.decider ≡ core.vars → IsListed core'.clauses guide.awake → guide.sleepers.vars ≡ core.vars → AreFew guide.sleepers → core'.vars ≡ core.vars → IsGuided core' guide
guided_more core core' guide r d listed sleepers few vars = grind arith

-- ---- after a line was learned

pub grown_guided : (core core' : CoreValue) (guide guide' : Guide) (line : ProofLineValue) (id : ℕ) → IsGuided core guide → AllPairs (λ a b. a ≢ b) line.lits → IsGrown core core' guide.awake guide'.awake line → id ≡ length core.clauses → guide'.awake.ids.items ≡ guide.awake.ids.items ++ id ∷ [] → guide'.walk ≡ guide.walk → guide'.decider ≡ guide.decider → guide'.sleepers ≡ guide.sleepers
    → IsGuided core' guide'
grown_guided core core' guide guide' line id g once w at ids walk decider sleepers = grind (arith, guided_more, listed_more)
