-- What is made of a candidate that is sought.
use Rattle.std.proofs.Common.{◌≡◌, ℕ, ◌≤◌, Bool, true, List, sym, ap, ◌∙◌, subst, ◌≢◌, ◌↔◌, IsTrue}
use Rattle.schedule.specs.Links.{TopologyValue}
use Rattle.collective_spec.specs.{declared.{kind.Kind.TheVariants.Allreduce, instance.Instance.Instance, spec.Spec.Spec}, Kinds.allows, Collectives.{IsSpec, kind_in, spec_instance}}
use Rattle.candidate_order.specs.{declared.{candidate.Candidate.Candidate, pruning.Pruning.Pruning}, Ranges.LimitsValue, Frontiers.{QuestionValue, IsSolvable, instance_for}}
use Rattle.cnf_formula.specs.Formulas.{Satisfies, Satisfiable}
use Rattle.round_encoding.specs.{declared.encoding.Encoding.Encoding, Rounding.encoding_of, Candidates.{IsCandidate, IsEncodingOf, size_of as candidate_size, size_limit}}
use Rattle.chunk_order.{specs.{Alike.Ordered, Ordering.ordered_formula_of, Solutions.IsEncodingFor}, proofs.Sufficing.decodes_ordered}
use Rattle.candidate_formula.specs.{declared.encoding.Encoded.Encoded, Encodings.{formula_in, schedule_said}, Formulas.{formula_for, Suits}, Questions.{IsSought, copying_question}}
use Rattle.candidate_formula.proofs.{Copying.{single, kept_copied, same_allowed, same_instance}, Sought.candidate_is, Bounded.candidate_small, Exact.{asked_formula, asked_exact, copied_formula, plain_holds, solvable_by}}

-- what is said of it
pub record IsMade (t : TopologyValue) (s : Spec) (x : Candidate) (p : Pruning) (e : Encoded) : Type 0 where
  pub formula : (limits : LimitsValue) → limits.pruning ≡ p → formula_in e ≡ formula_for (copying_question t s limits) x
  pub encoding : (limits : LimitsValue) → let i = instance_for (copying_question t s limits) x in IsEncodingOf t i.pre i.post x.s x.r e.encoding
  pub exactly : (limits : LimitsValue) → Satisfiable (formula_in e) ↔ IsSolvable (copying_question t s limits) x
  pub models : (values : List Bool) → Satisfies values (formula_in e) → Satisfies values e.encoding.formula
  pub suits : (limits : LimitsValue) → limits.pruning ≡ p → (values : List Bool) → Satisfies values (formula_in e) → Suits (copying_question t s limits) x (schedule_said e.encoding values)

module _ (t : TopologyValue) (s : Spec) (x : Candidate) (sought : IsSought t s x) where
  abbrev asked : LimitsValue → Instance
  asked limits = instance_for (copying_question t s limits) x

  pub is_spec : (nodes : ℕ) → nodes ≡ t.nodes → IsSpec nodes s
  is_spec nodes own = subst (λ n. IsSpec n s) (sym own) (kept_copied t.nodes s sought.small.spec)

  pub is_single : kind_in s ≢ Allreduce
  is_single = single s sought.small.copies

  pub is_allowed : (nodes : ℕ) → nodes ≡ t.nodes → IsTrue (allows (kind_in s) nodes x.c)
  is_allowed nodes own = subst (λ n. IsTrue (allows (kind_in s) n x.c)) (sym own) (subst IsTrue (same_allowed s t.nodes x.c) sought.within.allowed)

  module _ (i : Instance) (nodes : ℕ) (own : nodes ≡ t.nodes) (made : i ≡ spec_instance s nodes x.c) where
    asked_is : (limits : LimitsValue) → i ≡ asked limits
    asked_is limits = made ∙ ap (λ n. spec_instance s n x.c) own ∙ sym (same_instance s t.nodes x.c)

    pub is_candidate : IsCandidate t i.pre i.post x.s x.r
    is_candidate = subst (λ (j : Instance). IsCandidate t j.pre j.post x.s x.r) (sym (asked_is sought.limits)) (candidate_is (copying_question t s sought.limits) x sought.small sought.within)

    pub is_small : candidate_size t i.pre x.s x.r ≤ size_limit
    is_small = subst (λ (j : Instance). candidate_size t j.pre x.s x.r ≤ size_limit) (sym (asked_is sought.limits)) (candidate_small (copying_question t s sought.limits) x sought.small sought.within)

    pub encodes_it : (e : Encoding) → e ≡ encoding_of t i.pre i.post x.s x.r → IsEncodingOf t i.pre i.post x.s x.r e
    encodes_it e encoded = record { candidate = is_candidate; is = encoded }

    pub encodes_for : (e : Encoding) → e ≡ encoding_of t i.pre i.post x.s x.r → IsEncodingFor i.pre i.post e
    encodes_for e encoded = record { topology = t; steps = x.s; rounds = x.r; encodes = encodes_it e encoded }

    module _ (p : Pruning) (e : Encoded) (encoded : e.encoding ≡ encoding_of t i.pre i.post x.s x.r) (formula : formula_in e ≡ asked_formula p.ordered t i.pre i.post x.s x.r) where
      models : (values : List Bool) → Satisfies values (formula_in e) → Satisfies values e.encoding.formula
      models values h =
          subst (λ (k : Encoding). Satisfies values k.formula) (sym encoded)
          (plain_holds p.ordered t i.pre i.post x.s x.r is_candidate values (subst (Satisfies values) formula h))

      module _ (limits : LimitsValue) where
        abbrev q : QuestionValue
        q = copying_question t s limits

        of_asked : formula_in e ≡ asked_formula p.ordered t (asked limits).pre (asked limits).post x.s x.r
        of_asked = formula ∙ ap (λ (j : Instance). asked_formula p.ordered t j.pre j.post x.s x.r) (asked_is limits)

        candidate : IsCandidate t (asked limits).pre (asked limits).post x.s x.r
        candidate = candidate_is (copying_question t s sought.limits) x sought.small sought.within

        encodes : IsEncodingOf t (asked limits).pre (asked limits).post x.s x.r e.encoding
        encodes = record { candidate = candidate; is = encoded ∙ ap (λ (j : Instance). encoding_of t j.pre j.post x.s x.r) (asked_is limits) }

        is_exact : Satisfiable (formula_in e) ↔ IsSolvable q x
        is_exact =
            solvable_by q x (formula_in e) (asked_formula p.ordered t (asked limits).pre (asked limits).post x.s x.r) sought.small.copies of_asked
            (asked_exact p.ordered t (asked limits).pre (asked limits).post x.s x.r candidate)

        module _ (same : limits.pruning ≡ p) where
          has_formula : formula_in e ≡ formula_for q x
          has_formula =
              of_asked ∙ ap (λ (r : Pruning). asked_formula r.ordered t (asked limits).pre (asked limits).post x.s x.r) (sym same)
              ∙ sym (copied_formula q x sought.small.copies)

          suits : (values : List Bool) → Satisfies values (formula_in e) → Suits q x (schedule_said e.encoding values)
          suits values h ordered =
              let pre = (asked limits).pre in
              let post = (asked limits).post in
              let as_asked : p.ordered ≡ true = ap (λ (r : Pruning). r.ordered) (sym same) ∙ ordered in
              let whole : Satisfies values (ordered_formula_of t pre post x.s x.r) = subst (λ b. Satisfies values (asked_formula b t pre post x.s x.r)) as_asked (subst (Satisfies values) of_asked h) in
              subst (λ (k : Encoding). Ordered pre post (schedule_said k values)) (sym encodes.is) (decodes_ordered t pre post x.s x.r candidate values whole).ordered

      pub what_is_made : IsMade t s x p e
      what_is_made = record { formula = has_formula; encoding = encodes; exactly = is_exact; models = models; suits = suits }
