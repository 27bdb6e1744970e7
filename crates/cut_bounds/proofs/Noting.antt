-- One candidate more in the record of an engine over another.
use Rattle.std.proofs.{Common.{arith, ◌≡◌, Bool, true, false, [], ◌∷◌, ◌++◌, Some, None, refl, sym, ap, ◌∙◌, ⊎_elim, subst, Contains, Option, not}, lemmas.{List.{append-nil, Elements.{Contains-push_cases, filter-append}}, Option.none-some}}
use Rattle.std.proofs.lemmas.Bool.Decides.{nat_tests}
use Rattle.schedule.proofs.First.{Among-from_Contains, Contains-from_Among, filter_among}
use Rattle.candidate_order.specs.{declared.candidate.Candidate.Candidate, Frontiers.{QuestionValue, IsWithin}}
use Rattle.engine_rules.specs.{declared.settled.Settled.Settled, Outcomes.{RecordValue, IsNew}}
use Rattle.engine_rules.specs.declared.settled.Settled.TheVariants as settled
use Rattle.node_cuts.specs.{declared.sets.Sets.{Sets, TheVariants.Nothing}, Cutting.is_cut}
use Rattle.cut_bounds.specs.Cutting.{uncut_entries}

module _ (sets : Sets) where
  -- ---- the record

  abbrev stays : QuestionValue → Candidate × Settled → Bool
  stays q e = not (is_cut sets q e.0)

  pub uncut_cut : (q : QuestionValue) (entries : RecordValue) (x : Candidate) (kind : Settled) → is_cut sets q x ≡ true → uncut_entries sets q (entries ++ (x, kind) ∷ []) ≡ uncut_entries sets q entries
  uncut_cut q entries x kind cut = grind (arith, nat_tests, filter-append, append-nil)

  pub uncut_more : (q : QuestionValue) (entries : RecordValue) (x : Candidate) (kind : Settled) → is_cut sets q x ≡ false → uncut_entries sets q (entries ++ (x, kind) ∷ []) ≡ uncut_entries sets q entries ++ (x, kind) ∷ []
  uncut_more q entries x kind none = grind (arith, nat_tests, filter-append)

  -- ---- what an engine owes

  pub still_new : (q : QuestionValue) (entries inner : RecordValue) (x : Candidate) → inner ≡ uncut_entries sets q entries → IsNew entries x → IsNew inner x
  still_new q entries inner x kept fresh kind there =
      let now : Contains (uncut_entries sets q entries) (x, kind) = subst (λ es. Contains es (x, kind)) kept there in
      fresh kind (Contains-from_Among (x, kind) entries (filter_among (stays q) (x, kind) entries (Among-from_Contains (x, kind) (uncut_entries sets q entries) now)).0)

  -- an entry more, which a cut refutes as refuted
  pub refutes_more : (q : QuestionValue) (entries : RecordValue) (x : Candidate) (kind : Settled) → (is_cut sets q x ≡ true → kind ≡ settled.Refuted)
      → ((y : Candidate) (k : Settled) → Contains entries (y, k) → is_cut sets q y ≡ true → k ≡ settled.Refuted)
      → (y : Candidate) (k : Settled) → Contains (entries ++ (x, kind) ∷ []) (y, k) → is_cut sets q y ≡ true → k ≡ settled.Refuted
  refutes_more q entries x kind own old y k there cut =
      ⊎_elim
      (λ e. old y k e cut)
      (λ e.
      let same : x ≡ y = ap (λ p. p.0) e in
      let kinds : kind ≡ k = ap (λ p. p.1) e in
      sym kinds ∙ own (ap (is_cut sets q) same ∙ cut))
      (Contains-push_cases entries (x, kind) (y, k) there)

-- ---- of every entry

-- an entry more, which is within the limits
pub within_more : (q : QuestionValue) (entries : RecordValue) (x : Candidate) (kind : Settled) → IsWithin q x → ((y : Candidate) (k : Settled) → Contains entries (y, k) → IsWithin q y)
    → (y : Candidate) (k : Settled) → Contains (entries ++ (x, kind) ∷ []) (y, k) → IsWithin q y
within_more q entries x kind own old y k there =
    ⊎_elim
    (λ e. old y k e)
    (λ e. let same : x ≡ y = ap (λ (entry : Candidate × Settled). entry.0) e in subst (IsWithin q) same own)
    (Contains-push_cases entries (x, kind) (y, k) there)

-- where this one has not stopped, the one within has not
pub runs_within : (within own : Option Candidate) → ((x : Candidate) → within ≡ Some x → own ≡ Some x) → own ≡ None → within ≡ None
runs_within None own stops none = refl
runs_within (Some x) own stops none = absurd (none-some x (sym none ∙ stops x refl))

-- an empty record holds nothing
pub nothing_holds : {P : Type 0} (entries : RecordValue) (e : Candidate × Settled) → entries ≡ [] → Contains entries e → P
nothing_holds entries e none there = absurd (Among-from_Contains e [] (subst (λ es. Contains es e) none there))

-- where no set is looked at, every entry is left
pub all_left : (q : QuestionValue) (entries : RecordValue) → uncut_entries Nothing q entries ≡ entries
all_left q [] = refl
all_left q (e ∷ entries) = ap (λ (es : RecordValue). e ∷ es) (all_left q entries)
