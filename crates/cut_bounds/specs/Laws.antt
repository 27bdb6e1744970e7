-- What an engine over another owes of its record, by what the other owes of its own.
use Rattle.std.{specs.Prelude.{◌≡◌, true, false, Contains, not}, proofs.{Common.{sym, subst, ⊎_elim}, lemmas.Bool.{cases_Bool, not_from_false}}}
use Rattle.list_laws.proofs.Members.{Contains-filter}
use Rattle.schedule.specs.Solving.{Solvable}
use Rattle.collective_spec.specs.Collectives.{adds_up, spec_instance}
use Rattle.cnf_formula.specs.Formulas.{FormulaValue}
use Rattle.proof_rules.specs.Refuting.{Exhausted}
use Rattle.candidate_order.{specs.{declared.candidate.Candidate.Candidate, Frontiers.{QuestionValue, IsSolvable}}, proofs.Achieved.{Achievable, achieved}}
use Rattle.engine_rules.specs.{declared.settled.Settled.Settled, Outcomes.RecordValue}
use Rattle.engine_rules.specs.declared.settled.Settled.TheVariants as settled
use Rattle.node_cuts.{specs.{declared.sets.Sets.Sets, Cutting.is_cut}, proofs.Crossing.first_says}
use Rattle.cut_bounds.specs.Cutting.{uncut_entries}

abbrev is_unknown : Settled → Type 0
is_unknown settled.Unknown = Unit {0}
is_unknown _ = ⊥

module _ (sets : Sets) (q : QuestionValue) where
  -- a candidate that a cut refutes has no schedule
  pub cut_refuted : (x : Candidate) → adds_up q.spec ≡ false → is_cut sets q x ≡ true → IsSolvable q x → ⊥
  cut_refuted x copies cut solvable =
      let i = spec_instance q.spec q.topology.nodes x.c in
      let copied : Solvable q.topology i.pre i.post x.s x.r = subst (λ b. Achievable b q x) copies (achieved q x solvable) in
      first_says sets q.topology i.pre i.post copied.schedule x.s x.r cut copied.solves

  module _ (entries inner : RecordValue) (kept : inner ≡ uncut_entries sets q entries) where
    -- what no cut refutes stands in the record within
    left_inside : (e : Candidate × Settled) → is_cut sets q e.0 ≡ false → Contains entries e → Contains inner e
    left_inside e none there =
        subst (λ es. Contains es e) (sym kept) (Contains-filter (λ e. not (is_cut sets q e.0)) entries e (not_from_false (is_cut sets q e.0) none) there)

    pub right_by : adds_up q.spec ≡ false → ((x : Candidate) → Contains inner (x, settled.Refuted) → IsSolvable q x → ⊥) → (x : Candidate) → Contains entries (x, settled.Refuted) → IsSolvable q x → ⊥
    right_by copies right x there =
        ⊎_elim
        (λ (cut : is_cut sets q x ≡ true). cut_refuted x copies cut)
        (λ (none : is_cut sets q x ≡ false). right x (left_inside (x, settled.Refuted) none there))
        (cases_Bool (is_cut sets q x))

    pub exhausted_by : (formula : Candidate → FormulaValue) → ((x : Candidate) (kind : Settled) → Contains entries (x, kind) → is_cut sets q x ≡ true → kind ≡ settled.Refuted)
        → ((x : Candidate) → Contains inner (x, settled.Unknown) → Exhausted (formula x) q.limits.conflicts) → (x : Candidate) → Contains entries (x, settled.Unknown) → Exhausted (formula x) q.limits.conflicts
    exhausted_by formula refutes exhausted x there =
        ⊎_elim
        (λ (cut : is_cut sets q x ≡ true). absurd (subst is_unknown (refutes x settled.Unknown there cut) tt))
        (λ (none : is_cut sets q x ≡ false). exhausted x (left_inside (x, settled.Unknown) none there))
        (cases_Bool (is_cut sets q x))
