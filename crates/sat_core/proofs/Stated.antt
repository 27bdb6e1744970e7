-- The line of a literal of level 0, over plain values: it is accepted, short and fresh.
use Rattle.std.proofs.{Common.{◌≡◌, ℕ, ◌+◌, ◌<◌, ◌≤◌, true, false, Bool, List, [], ◌∷◌, ◌++◌, length, get_or, take, refl, sym, ap, ◌∙◌, subst, ⊎_elim, arith, ◌≢◌, All, AllPairs, Contains, None}, lemmas.Bool.false≢true}
use Rattle.std.proofs.lemmas.List.{Elements.{All-push, All-take, Contains-push_cases}, Quantifiers.all_pairs_push, length-take-le, map-append, take-map, get_or-take, get_or_default}
use Rattle.list_laws.proofs.Each.{all_contained}
use Rattle.cnf_formula.specs.{Formulas.{FormulaValue, IsAbout}, Literals.{LitValue, negation, code_of}, Lines.ProofLineValue}
use Rattle.proof_rules.specs.{declared.verdict.LineVerdict.TheVariants.Accepted, Judging.verdict_of, Refuting.is_fresh}
use Rattle.ledger_rules.specs.Logs.{checker_of}
use Rattle.trail_core.{specs.{Trails.lits_of, Formed.IsTrail, Meaning.{CoreValue, trues}}, proofs.Keeping.lits_length}
use Rattle.conflict_analysis.{specs.{Met.lit_at, UnitLines.{denied, IsUnitLine}}, proofs.{Denied.denied_length, Marked.{lit_read, lit_about, same_place}, Members.{here, cons_cases}}}
use Rattle.sleeping_clauses.specs.{Naming.IsNamed, Sleeping.{SleepersValue, HasNone}, declared.awake.Awake.Awake}
use Rattle.sat_core.{specs.{inner.Stating.{AreStated, IsStating}, Ready.IsReady}, proofs.{AtConflict.{line_accepted, line_short}, Fresh.fresh_by, Readiness.{next_number, written_more}}}

-- the core with the trail below a place, and then the negation of its literal
abbrev denied_core : CoreValue → ℕ → CoreValue
denied_core core place = record core { trail = denied core place; limits = [] }

denied_lits : (core : CoreValue) (place : ℕ) → lits_of (denied core place) ≡ take place (trues core) ++ negation (lit_at core place) ∷ []
denied_lits core place = map-append (λ s. s.lit) (take place core.trail) (record { lit = negation (lit_at core place); reason = None } ∷ []) ∙ ap (λ xs. xs ++ negation (lit_at core place) ∷ []) (sym (take-map (λ s. s.lit) place core.trail))

denied_formed : (core : CoreValue) (place : ℕ) → IsTrail core.vars core.trail core.limits → place < length core.trail → IsTrail core.vars (denied core place) []
denied_formed core place t w =
    let about = lit_about core place t w in
    record {
      within = subst (All (IsAbout core.vars)) (sym (denied_lits core place)) (All-push (IsAbout core.vars) (take place (trues core)) (negation (lit_at core place)) (All-take (IsAbout core.vars) place (trues core) t.within) (record { some = about.some; within = about.within }));
      apart = subst (AllPairs (λ a b. a.var ≢ b.var)) (sym (denied_lits core place)) (all_pairs_push (λ a b. a.var ≢ b.var) (take place (trues core)) (negation (lit_at core place))
          (λ i j d lt v. grind (arith, len, lits_length core.trail, t.apart i j d, get_or-take place (trues core) i d, get_or-take place (trues core) j d))
          (λ k x v. grind (arith, len, get_or-take place (trues core) k x, lit_read core k x, same_place core k place t)));
      few = grind (arith, denied_length core place w, t.few);
      levels = grind arith;
    }
  where
    len : length (take place (trues core)) ≡ place
    len = length-take-le place (trues core) (omega (arith, w, lits_length core.trail))

one_alone : (R : LitValue → LitValue → Type 0) (l : LitValue) → AllPairs R (l ∷ [])
one_alone R l i j d lt v = absurd (omega (arith, lt, v))

-- ---- the line

-- the search is ready, and has the line of a literal on level 0, by the core's numbers and by the ledger's
pub record HasUnitLine (base : FormulaValue) (lines : List ProofLineValue) (core : CoreValue) (awake : Awake) (s : SleepersValue) (place : ℕ) (unit line : ProofLineValue) : Type 0 where
  pub ready : IsReady base lines core awake s
  pub formed : IsTrail core.vars core.trail core.limits
  pub within : place < length core.trail
  pub is : IsUnitLine core place unit
  pub named : IsNamed awake.names.items awake.held unit line

module _ {base : FormulaValue} {lines : List ProofLineValue} {core : CoreValue} {awake : Awake} {s : SleepersValue} {place : ℕ} {unit line : ProofLineValue} (t : HasUnitLine base lines core awake s place unit line) where
  stating_lits : line.lits ≡ lit_at core place ∷ []
  stating_lits = t.named.lits ∙ t.is.lits

  stating_accepted : verdict_of (checker_of base lines) line ≡ Accepted true
  stating_accepted =
      let a = t.ready.holding.agree in
      line_accepted (checker_of base lines) (denied_core core place) awake.names.items awake.held s t.is.resolved t.is.conflict unit line (record { vars = a.vars; held = a.held }) (denied_formed core place t.formed t.within) t.is.analysis (subst (AllPairs (λ a b. a.var ≢ b.var)) (sym t.is.lits) (one_alone (λ a b. a.var ≢ b.var) (lit_at core place))) t.is.hints t.named
      (next_number base lines core awake s line.id t.ready t.named.id)

  stating_short : length line.hints ≤ base.vars + 1
  stating_short =
      let short = line_short (denied_core core place) awake.names.items awake.held t.is.resolved t.is.conflict unit line t.is.hints t.named in
      omega (arith, short, denied_length core place t.within, t.within, t.formed.few, t.ready.holding.agree.vars, ap (λ f. f.vars) t.ready.holding.formula)

  -- no clause of the core has the literal alone, and none that sleeps has
  stating_fresh : (stated : List Bool) → AreStated core.clauses stated → get_or stated (code_of (lit_at core place)) true ≡ false → HasNone s line.lits → is_fresh (checker_of base lines) line.lits ≡ true
  stating_fresh stated are new none =
      let l = lit_at core place in
      subst (λ ls. is_fresh (checker_of base lines) ls ≡ true) (sym stating_lits)
      (fresh_by (checker_of base lines) core.clauses s (l ∷ []) l t.ready.holding.agree.held.only (subst (HasNone s) stating_lits none) (here l [])
      (λ other w sub. are other l w new (λ o h. ⊎_elim (λ q. sym q) (λ c. absurd (omega (arith, c.1))) (cons_cases l [] o (sub o h)))))

pub stating_about : (core : CoreValue) (place vars : ℕ) (lits : List LitValue) → IsTrail core.vars core.trail core.limits → place < length core.trail → vars ≡ core.vars → lits ≡ lit_at core place ∷ [] → All (IsAbout vars) lits
stating_about core place vars lits t w v e = grind (arith, all_contained, ⊎_elim, lit_about, cons_cases)

-- ---- what is marked

pub stated_nil : (stated : List Bool) → AreStated [] stated
stated_nil stated clause l c new alone = absurd (omega (arith, c.1))

pub stated_more : (clauses : List (List LitValue)) (lits : List LitValue) (stated stated' : List Bool) → AreStated clauses stated → ((l : LitValue) → get_or stated' (code_of l) true ≡ false → get_or stated (code_of l) true ≡ false) → AreStated (lits ∷ []) stated' → AreStated (clauses ++ lits ∷ []) stated'
stated_more clauses lits stated stated' are on this clause l c new alone = ⊎_elim
    (λ h. are clause l h (on l new) alone)
    (λ e. this clause l (subst (λ x. Contains (lits ∷ []) x) e (here lits [])) new alone)
    (Contains-push_cases clauses lits clause c)

-- ---- the line, as it is handed on

pub stating_is : (base : FormulaValue) (lines : List ProofLineValue) (core : CoreValue) (awake awake' : Awake) (s : SleepersValue) (place : ℕ) (unit line : ProofLineValue) (stated : List Bool) → HasUnitLine base lines core awake s place unit line → awake'.held ≡ awake.held → AreStated core.clauses stated → get_or stated (code_of (lit_at core place)) true ≡ false → HasNone s line.lits
    → IsStating base lines core awake' line
stating_is base lines core awake awake' s place unit line stated t held are new none = record {
  accepted = stating_accepted t;
  fresh = stating_fresh t stated are new none;
  written = written_more base lines core awake s line t.ready (stating_accepted t) t.named.id (stating_short t);
  next = t.named.id ∙ ap (λ n. n + 1) (sym held);
  about = stating_about core place core.vars line.lits t.formed t.within refl (stating_lits t);
  once = subst (AllPairs (λ a b. a ≢ b)) (sym (stating_lits t)) (one_alone (λ a b. a ≢ b) (lit_at core place));
}

-- ---- how a clause marks

pub stated_one : (stated : List Bool) (lit : LitValue) → get_or stated (code_of lit) true ≡ true → AreStated ((lit ∷ []) ∷ []) stated
stated_one stated lit is clause l c new alone = ⊎_elim
    (λ e.
    let same : lit ≡ l = alone lit (subst (λ x. Contains x lit) e (here lit [])) in
    false≢true (sym new ∙ ap (λ x. get_or stated (code_of x) true) (sym same) ∙ is))
    (λ h. omega (arith, h.1))
    (cons_cases (lit ∷ []) [] clause c)

pub stated_all : (stated : List Bool) (lits : List LitValue) → ((k : ℕ) → get_or stated k true ≡ true) → AreStated (lits ∷ []) stated
stated_all stated lits all clause l c new alone = false≢true (sym new ∙ all (code_of l))

pub stated_many : (stated : List Bool) (lits : List LitValue) → AllPairs (λ a b. a ≢ b) lits → 1 < length lits → AreStated (lits ∷ []) stated
stated_many stated lits once many clause l c new alone = grind (arith, ⊎_elim, get_or_default, cons_cases)

-- a list of one
pub alone_is : (lits : List LitValue) (l : LitValue) → 1 ≤ length lits → length lits < 2 → l ≡ get_or lits 0 l → lits ≡ l ∷ []
alone_is [] l some few e = absurd (omega (arith, some))
alone_is (x ∷ []) l some few e = ap (λ y. y ∷ []) (sym e)
alone_is (x ∷ y ∷ ys) l some few e = absurd (omega (arith, few))
