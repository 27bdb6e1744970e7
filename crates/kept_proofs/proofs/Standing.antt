-- What holds of an engine beside the one that searches, from record to record.
use Rattle.std.proofs.{Common.{◌≡◌, ℕ, Bool, true, false, List, [], ◌∷◌, ◌++◌, Option, None, Some, Result, Ok, Err, refl, sym, ap, ◌∙◌, subst, ⊎_elim, arith, Contains, OnOk, OnErr}, lemmas.{Bool.false≢true, Option.none-some}}
use Rattle.std.proofs.lemmas.List.Elements.{Contains-append_left, Contains-push, Contains-push_cases}
use Rattle.schedule.specs.Links.{TopologyValue}
use Rattle.collective_spec.specs.declared.spec.Spec.{Spec}
use Rattle.cnf_formula.specs.{Formulas.FormulaValue, Lines.ProofLineValue}
use Rattle.proof_rules.{specs.Refuting.Exhausted, proofs.Tested.not_rup}
use Rattle.ledger_rules.specs.Logs.{checker_of}
use Rattle.candidate_order.specs.{declared.{candidate.Candidate.Candidate, outcome.Outcome.Outcome}, Ranges.LimitsValue, Frontiers.{QuestionValue, IsSolvable}}
use Rattle.candidate_formula.specs.Questions.{copying_question}
use Rattle.engine_rules.specs.{declared.{fault.EngineFault.EngineFault, settled.Settled.{Settled, TheVariants.{Refuted, Unknown}}}, Outcomes.{RecordValue, SpentOn, kind_of}}
use Rattle.candidate_order.specs.declared.outcome.Outcome.TheVariants as outcome

-- of the inner engine's record, and the candidate at which it failed, beside the engine's own
pub record Standing (kept : Bool) (q : QuestionValue) (f : Candidate → FormulaValue) (inner : RecordValue) (failed : Option Candidate) (entries : RecordValue) (stopped : Option Candidate) : Type 0 where
  pub among : (x : Candidate) (kind : Settled) → (Contains entries (x, kind) → ⊥) → Contains inner (x, kind) → ⊥
  pub stops : (x : Candidate) → failed ≡ Some x → stopped ≡ Some x
  pub right : (x : Candidate) → Contains entries (x, Refuted) → IsSolvable q x → ⊥
  pub exhausted : (x : Candidate) → Contains entries (x, Unknown) → Exhausted (f x) q.limits.conflicts
  pub searches : kept ≡ false → inner ≡ entries

-- an engine that has not failed
never : {P : Type 0} (stopped : Option Candidate) (x : Candidate) → stopped ≡ None → stopped ≡ Some x → P
never stopped x running at = absurd (none-some x (sym running ∙ at))

-- a record without entries
nothing : {P : Type 0} (entries : RecordValue) (e : Candidate × Settled) → entries ≡ [] → Contains entries e → P
nothing entries e none there = let none_there = subst (λ es. Contains es e) none there in absurd (omega (arith, none_there.1))

-- the candidate at which an engine failed
pub failed_there : (stopped : Option Candidate) (x y : Candidate) → stopped ≡ Some x → stopped ≡ Some y → x ≡ y
failed_there stopped x y at also = let same : Some x ≡ Some y = sym at ∙ also in cc

-- an engine that has settled nothing, and has not failed
pub stands_new : {kept : Bool} (q : QuestionValue) (f : Candidate → FormulaValue) {inner : RecordValue} {failed : Option Candidate} {entries : RecordValue} (stopped : Option Candidate) → inner ≡ [] → failed ≡ None → entries ≡ [] → Standing kept q f inner failed entries stopped
stands_new q f {inner} {failed} {entries} stopped none_below running none = record {
  among = λ x kind lacks there. nothing inner (x, kind) none_below there;
  stops = λ x s. never failed x running s;
  right = λ x there solvable. nothing entries (x, Refuted) none there;
  exhausted = λ x there. nothing entries (x, Unknown) none there;
  searches = λ off. none_below ∙ sym none;
}

module _ {kept : Bool} {q : QuestionValue} {f : Candidate → FormulaValue} {inner : RecordValue} {failed : Option Candidate} {entries : RecordValue} {stopped : Option Candidate} (old : Standing kept q f inner failed entries stopped) where
  -- with the same records
  pub stands_still : {p : QuestionValue} {g : Candidate → FormulaValue} {below now : RecordValue} (fails at : Option Candidate) → p ≡ q → ((x : Candidate) → g x ≡ f x) → below ≡ inner → now ≡ entries
      → ((x : Candidate) → fails ≡ Some x → at ≡ Some x) → Standing kept p g below fails now at
  stands_still {p} {g} {below} {now} fails at asked formula same_below same stops = record {
    among = λ x kind none there. old.among x kind (λ c. none (subst (λ es. Contains es (x, kind)) (sym same) c)) (subst (λ es. Contains es (x, kind)) same_below there);
    stops = stops;
    right = λ x there solvable. old.right x (subst (λ es. Contains es (x, Refuted)) same there) (subst (λ r. IsSolvable r x) asked solvable);
    exhausted = λ x there. subst (λ (r : QuestionValue). Exhausted (g x) r.limits.conflicts) (sym asked) (subst (λ h. Exhausted h q.limits.conflicts) (sym (formula x)) (old.exhausted x (subst (λ es. Contains es (x, Unknown)) same there)));
    searches = λ off. same_below ∙ old.searches off ∙ sym same;
  }

  -- where it failed at a candidate, and so did the inner one, or not at all
  pub stands_failed : (x : Candidate) {p : QuestionValue} {g : Candidate → FormulaValue} {below now : RecordValue} (fails : Option Candidate) {at : Option Candidate} → p ≡ q → ((y : Candidate) → g y ≡ f y) → below ≡ inner → now ≡ entries
      → ((y : Candidate) → fails ≡ Some y → y ≡ x) → at ≡ Some x → Standing kept p g below fails now at
  stands_failed x fails {at} asked formula same_below same own there = stands_still fails at asked formula same_below same (λ y s. there ∙ ap Some (sym (own y s)))

  -- the inner one has not failed where the engine has not
  pub calm_below : stopped ≡ None → (x y : Candidate) → failed ≡ Some y → y ≡ x
  calm_below running x y s = never stopped y running (old.stops y s)

  -- where room for one more was made, or was not
  pub stands_prepared : {U : Type 0} (x : Candidate) {now : RecordValue} (at : Option Candidate) (made : Result U EngineFault) → now ≡ entries → stopped ≡ None → OnOk made (at ≡ stopped) → OnErr made (at ≡ Some x) → Standing kept q f inner failed now at
  stands_prepared x at (Ok u) same running ok err = stands_still failed at refl (λ y. refl) refl same (λ y s. ok ∙ old.stops y s)
  stands_prepared x at (Err fault) same running ok err = stands_failed x failed refl (λ y. refl) refl same (calm_below running x) err

  -- the inner one has not failed either
  pub calm : stopped ≡ None → failed ≡ None
  calm running = go failed refl
    where
      go : (o : Option Candidate) → failed ≡ o → failed ≡ None
      go None is = is
      go (Some y) is = never stopped y running (old.stops y is)

  -- with one candidate more, that its files refute
  pub stands_taken : (x : Candidate) {now : RecordValue} (at : Option Candidate) → now ≡ entries ++ (x, Refuted) ∷ [] → (IsSolvable q x → ⊥) → kept ≡ true → failed ≡ None → Standing kept q f inner failed now at
  stands_taken x at added unsolvable on running = record {
    among = λ y kind none there. old.among y kind (λ c. none (subst (λ es. Contains es (y, kind)) (sym added) (Contains-append_left entries ((x, Refuted) ∷ []) (y, kind) c))) there;
    stops = λ y s. never failed y running s;
    right = λ y there solvable. ⊎_elim
        (λ c. old.right y c solvable)
        (λ e. unsolvable (subst (IsSolvable q) (sym (ap (λ (p : Candidate × Settled). p.0) e)) solvable))
        (Contains-push_cases entries (x, Refuted) (y, Refuted) (subst (λ es. Contains es (y, Refuted)) added there));
    exhausted = λ y there. ⊎_elim
        (λ c. old.exhausted y c)
        (λ e. let kinds : Refuted ≡ Unknown = ap (λ (p : Candidate × Settled). p.1) e in absurd (cc))
        (Contains-push_cases entries (x, Refuted) (y, Unknown) (subst (λ es. Contains es (y, Unknown)) added there));
    searches = λ off. absurd (false≢true (sym off ∙ on));
  }

  -- with one candidate more, that the inner engine settled
  pub stands_searched : (x : Candidate) (kind : Settled) {p : QuestionValue} {g : Candidate → FormulaValue} {below now : RecordValue} {fails : Option Candidate} (at : Option Candidate) → p ≡ q → ((y : Candidate) → g y ≡ f y) → below ≡ inner ++ (x, kind) ∷ [] → now ≡ entries ++ (x, kind) ∷ []
      → fails ≡ None → (kind ≡ Refuted → IsSolvable q x → ⊥) → (kind ≡ Unknown → Exhausted (f x) q.limits.conflicts) → Standing kept p g below fails now at
  stands_searched x kind {p} {g} {below} {now} {fails} at asked formula below_added added running unsolvable spent = record {
    among = λ y k none there. ⊎_elim
        (λ c. old.among y k (λ d. none (subst (λ es. Contains es (y, k)) (sym added) (Contains-append_left entries ((x, kind) ∷ []) (y, k) d))) c)
        (λ e. none (subst (λ es. Contains es (y, k)) (sym added) (subst (Contains (entries ++ (x, kind) ∷ [])) e (Contains-push entries (x, kind)))))
        (Contains-push_cases inner (x, kind) (y, k) (subst (λ es. Contains es (y, k)) below_added there));
    stops = λ y s. never fails y running s;
    right = λ y there solvable. ⊎_elim
        (λ c. old.right y c (subst (λ r. IsSolvable r y) asked solvable))
        (λ e. unsolvable (ap (λ (d : Candidate × Settled). d.1) e) (subst (IsSolvable q) (sym (ap (λ (d : Candidate × Settled). d.0) e)) (subst (λ r. IsSolvable r y) asked solvable)))
        (Contains-push_cases entries (x, kind) (y, Refuted) (subst (λ es. Contains es (y, Refuted)) added there));
    exhausted = λ y there. subst (λ (r : QuestionValue). Exhausted (g y) r.limits.conflicts) (sym asked) (subst (λ h. Exhausted h q.limits.conflicts) (sym (formula y)) (⊎_elim
        (λ c. old.exhausted y c)
        (λ e. subst (λ z. Exhausted (f z) q.limits.conflicts) (ap (λ (d : Candidate × Settled). d.0) e) (spent (ap (λ (d : Candidate × Settled). d.1) e)))
        (Contains-push_cases entries (x, kind) (y, Unknown) (subst (λ es. Contains es (y, Unknown)) added there))));
    searches = λ off. below_added ∙ ap (λ es. es ++ (x, kind) ∷ []) (old.searches off) ∙ sym added;
  }

-- questions of the same links, collective and limits
pub asked_alike : (t u : TopologyValue) (s v : Spec) (l m : LimitsValue) → t ≡ u → s ≡ v → l ≡ m → copying_question t s l ≡ copying_question u v m
asked_alike t u s v l m a b c = ap (λ t. copying_question t s l) a ∙ ap (λ s. copying_question u s l) b ∙ ap (copying_question u v) c

-- ---- outcomes

refuted_kind : (out : Outcome) → kind_of out ≡ Refuted → out ≡ outcome.Refuted
refuted_kind (outcome.Solved s) e = absurd (cc)
refuted_kind outcome.Refuted e = refl
refuted_kind (outcome.Unknown n) e = absurd (cc)

unknown_kind : (out : Outcome) → kind_of out ≡ Unknown → (n : ℕ) × (out ≡ outcome.Unknown n)
unknown_kind (outcome.Solved s) e = absurd (cc)
unknown_kind outcome.Refuted e = absurd (cc)
unknown_kind (outcome.Unknown n) e = (n, refl)

-- what an outcome says of its candidate, by its kind
pub unsolvable_by : (P : Type 0) (out : Outcome) (kind : Settled) → kind ≡ kind_of out → (out ≡ outcome.Refuted → P → ⊥) → kind ≡ Refuted → P → ⊥
unsolvable_by P out kind is said same = said (refuted_kind out (sym is ∙ same))

pub exhausted_by : (f : FormulaValue) (lines : List ProofLineValue) (limit : ℕ) (out : Outcome) (kind : Settled) → kind ≡ kind_of out → ((n : ℕ) → out ≡ outcome.Unknown n → (n ≡ limit) × SpentOn f lines n) → kind ≡ Unknown → Exhausted f limit
exhausted_by f lines limit out kind is said same =
    let unknown = unknown_kind out (sym is ∙ same) in
    let over = said unknown.0 unknown.1 in
    let spent = subst (SpentOn f lines) over.0 over.1 in
    ∣ record { lines = lines; spent = spent.spent; not_closed = not_rup (checker_of f lines) [] spent.not_closed } ∣₁
