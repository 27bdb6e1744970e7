-- One candidate more in a record, by its formula and the lines of its search.
use Rattle.std.proofs.{Common.{arith, ◌≡◌, ℕ, List, [], ◌∷◌, ◌++◌, refl, sym, ap, ◌∙◌, subst, ⊎_elim, Contains, map}, lemmas.{List.Elements.Contains-push_cases, Bool.Decides.nat_tests}}
use Rattle.cnf_formula.specs.{Formulas.{FormulaValue, Satisfiable}, Lines.ProofLineValue, declared.line.LratLine.TheVariants.Addition}
use Rattle.proof_rules.{specs.Refuting.{Exhausted, Refutes}, proofs.{Calm.never_refuted, Tested.not_rup}}
use Rattle.ledger_rules.specs.Logs.{checker_of}
use Rattle.candidate_order.specs.{declared.{candidate.Candidate.Candidate, outcome.Outcome.Outcome}, Frontiers.{QuestionValue, IsSolvable}}
use Rattle.candidate_order.specs.declared.outcome.Outcome.TheVariants as outcome
use Rattle.engine_rules.specs.{declared.settled.Settled.Settled, Outcomes.{RecordValue, kind_of}}
use Rattle.engine_rules.specs.declared.settled.Settled.TheVariants as settled
use Rattle.candidate_solver.specs.{Proved.IsProved, Trying.IsOutcome}

pub not_solvable : (q : QuestionValue) (x : Candidate) (f : FormulaValue) (lines : List ProofLineValue) → (IsSolvable q x → Satisfiable f) → Refutes (map Addition lines) f → IsSolvable q x → ⊥
not_solvable q x f lines said refutes solvable = never_refuted f (map Addition lines) (said solvable) refutes

pub proved_by : (q : QuestionValue) (x : Candidate) (f : FormulaValue) (lines : List ProofLineValue) (out : Outcome) (kind : Settled) → kind ≡ kind_of out → IsOutcome q x f lines out → IsProved f q.limits.conflicts lines kind
proved_by q x f lines (outcome.Solved s) kind e o = grind (arith, nat_tests)
proved_by q x f lines outcome.Refuted kind e o = grind (arith, nat_tests)
proved_by q x f lines (outcome.Unknown n) kind e o = grind (arith, nat_tests)

-- the last of some entries
last_or : Candidate × Settled → RecordValue → Candidate × Settled
last_or d [] = d
last_or d (entry ∷ entries) = last_or entry entries

last_pushed : (d : Candidate × Settled) (entries : RecordValue) (entry : Candidate × Settled) → last_or d (entries ++ entry ∷ []) ≡ entry
unfolding last_or
last_pushed d [] entry = refl
last_pushed d (e ∷ entries) entry = last_pushed e entries entry

module _ (formula : Candidate → FormulaValue) (entries now : RecordValue) (x : Candidate) (kind : Settled) (lines : List ProofLineValue) (limit : ℕ) (added : now ≡ entries ++ (x, kind) ∷ []) (proved : IsProved (formula x) limit lines kind) where
  pub right_more : (q : QuestionValue) → (IsSolvable q x → Satisfiable (formula x)) → ((y : Candidate) → Contains entries (y, settled.Refuted) → IsSolvable q y → ⊥) → (y : Candidate) → Contains now (y, settled.Refuted) → IsSolvable q y → ⊥
  right_more q said old y at solvable = ⊎_elim
      (λ e. old y e solvable)
      (λ e.
      let own : x ≡ y = ap (λ p. p.0) e in
      not_solvable q x (formula x) lines said (proved.refuted (ap (λ p. p.1) e)) (subst (IsSolvable q) (sym own) solvable))
      (Contains-push_cases entries (x, kind) (y, settled.Refuted) (subst (λ r. Contains r (y, settled.Refuted)) added at))

  pub exhausted_more : ((y : Candidate) → Contains entries (y, settled.Unknown) → Exhausted (formula y) limit) → (y : Candidate) → Contains now (y, settled.Unknown) → Exhausted (formula y) limit
  exhausted_more old y at = ⊎_elim
      (λ e. old y e)
      (λ e.
      let over = proved.unknown (ap (λ p. p.1) e) in
      subst (λ y. Exhausted (formula y) limit) (ap (λ p. p.0) e) ∣ record { lines = lines; spent = over.spent; not_closed = not_rup (checker_of (formula x) lines) [] over.not_closed } ∣₁)
      (Contains-push_cases entries (x, kind) (y, settled.Unknown) (subst (λ r. Contains r (y, settled.Unknown)) added at))

  pub proved_last : (before : RecordValue) (y : Candidate) → now ≡ before ++ (y, settled.Refuted) ∷ [] → Refutes (map Addition lines) (formula y)
  proved_last before y is =
      let d : Candidate × Settled = (x, kind) in
      let e : (x, kind) ≡ (y, settled.Refuted) = sym (last_pushed d entries (x, kind)) ∙ ap (last_or d) (sym added ∙ is) ∙ last_pushed d before (y, settled.Refuted) in
      subst (λ y. Refutes (map Addition lines) (formula y)) (ap (λ p. p.0) e) (proved.refuted (ap (λ p. p.1) e))
