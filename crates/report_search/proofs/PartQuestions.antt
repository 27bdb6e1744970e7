-- What is asked of a part can be searched.
use Rattle.std.proofs.{Common.{◌≡◌, ◌≢◌, ◌⊎◌, inl, inr, ℕ, ◌<◌, ◌≤◌, true, [], ◌∷◌, Contains, Option, None, refl, sym, ap, subst, ◌∙◌}, lemmas.List.Elements.{All-contains, All-cons, All-nil}}
use Rattle.outer_ports.specs.declared.part.Part.{Part, TheVariants.{Whole, Reduce, Gather, Joined}}
use Rattle.schedule.specs.Links.{TopologyValue}
use Rattle.collective_spec.{specs.{declared.{spec.Spec.Spec, kind.Kind.Kind}, Patterns.PatternValue, Collectives.{IsSpec, fits_kind, kind_in, spec_of}}, proofs.Sized.{fitting_kind, fitting_spec}}
use Rattle.collective_spec.specs.declared.kind.Kind.TheVariants as kind
use Rattle.candidate_order.specs.{Ranges.LimitsValue, Frontiers.QuestionValue}
use Rattle.round_encoding.specs.Candidates.{size_limit}
use Rattle.candidate_formula.specs.Sizes.{size_of}
use Rattle.topology_text.specs.Value.{NamedTopologyValue}
use Rattle.report_form.specs.Reports.{WordsValue, parts_of, question_of}
use Rattle.frontier_audit.{specs.Searches.IsAsked, proofs.Right.unpatterned}

-- ---- the parts of a collective

-- one alone, or the two of an allreduce
pub parts_are : (k : Kind) → ((k ≢ kind.Allreduce) × (parts_of k ≡ Whole ∷ [])) ⊎ ((k ≡ kind.Allreduce) × (parts_of k ≡ Reduce ∷ Gather ∷ []))
parts_are kind.Broadcast = inl (λ e. absurd cc, refl)
parts_are kind.Gather = inl (λ e. absurd cc, refl)
parts_are kind.Allgather = inl (λ e. absurd cc, refl)
parts_are kind.Scatter = inl (λ e. absurd cc, refl)
parts_are kind.Alltoall = inl (λ e. absurd cc, refl)
parts_are kind.Reduce = inl (λ e. absurd cc, refl)
parts_are kind.Reducescatter = inl (λ e. absurd cc, refl)
parts_are kind.Allreduce = inr (refl, refl)
parts_are kind.Custom = inl (λ e. absurd cc, refl)

pub one_part : (k : Kind) → k ≢ kind.Allreduce → parts_of k ≡ Whole ∷ []
one_part k single = elim (parts_are k) [ inl one ↦ one.1 | inr two ↦ absurd (single two.0) ]

pub two_parts : (k : Kind) → k ≡ kind.Allreduce → parts_of k ≡ Reduce ∷ Gather ∷ []
two_parts k is = ap parts_of is

in_one : (part : Part) → Contains (Whole ∷ []) part → part ≡ Whole
in_one part at = All-contains (λ p. p ≡ Whole) (Whole ∷ []) part (All-cons (λ p. p ≡ Whole) Whole [] refl (All-nil (λ p. p ≡ Whole))) at

in_two : (part : Part) → Contains (Reduce ∷ Gather ∷ []) part → (part ≡ Reduce) ⊎ (part ≡ Gather)
in_two part at =
    let Either : Part → Type 0 = λ p. (p ≡ Reduce) ⊎ (p ≡ Gather) in
    All-contains Either (Reduce ∷ Gather ∷ []) part (All-cons Either Reduce (Gather ∷ []) (inl refl) (All-cons Either Gather [] (inr refl) (All-nil Either))) at

-- ---- what a search needs of a part

pub record CanBeSearched (part : Part) (q : QuestionValue) : Type 0 where
  pub spec : IsSpec q.topology.nodes q.spec
  pub single : kind_in q.spec ≢ kind.Allreduce
  pub named : part ≢ Joined
  pub small : size_of q ≤ size_limit

module _ (w : WordsValue) (t : NamedTopologyValue) (asked : IsAsked w t) where
  root_below : w.collective.root < t.topology.nodes
  root_below = subst (λ n. w.collective.root < n) asked.topology.as_many asked.words.root

  whole_can : w.collective.kind ≢ kind.Allreduce → CanBeSearched Whole (question_of w t Whole)
  whole_can single = record {
    spec = fitting_spec t.topology.nodes w.collective t.custom asked.fits root_below asked.topology.custom;
    single = λ e. single (sym (fitting_kind w.collective t.custom asked.fits) ∙ e);
    named = λ e. absurd cc;
    small = asked.small;
  }

  module _ (is : w.collective.kind ≡ kind.Allreduce) where
    pub none_given : t.custom ≡ None
    none_given = unpatterned t.custom (subst (λ k. fits_kind k t.custom ≡ true) is asked.fits)

    abbrev size_at : Kind → Option PatternValue → ℕ
    size_at k custom = size_of (record { topology = t.topology; spec = spec_of (record { kind = k; root = w.collective.root }) custom; limits = w.limits })

    -- the chunks of an allreduce are those of each of its parts
    same_size : (k : Kind) → size_at k None ≡ size_at kind.Allreduce None → size_at k t.custom ≡ size_at w.collective.kind t.custom
    same_size k alike = ap (size_at k) none_given ∙ alike ∙ sym (ap (size_at kind.Allreduce) none_given) ∙ sym (ap (λ k. size_at k t.custom) is)

    part_can : (part : Part) (k : Kind) → k ≢ kind.Allreduce → part ≢ Joined → fits_kind k None ≡ true → size_at k None ≡ size_at kind.Allreduce None
        → CanBeSearched part (record { topology = t.topology; spec = spec_of (record { kind = k; root = w.collective.root }) t.custom; limits = w.limits })
    part_can part k single named standard alike =
        let fits : fits_kind k t.custom ≡ true = ap (fits_kind k) none_given ∙ standard in
        record {
          spec = fitting_spec t.topology.nodes (record { kind = k; root = w.collective.root }) t.custom fits root_below asked.topology.custom;
          single = λ e. single (sym (fitting_kind (record { kind = k; root = w.collective.root }) t.custom fits) ∙ e);
          named = named;
          small = subst (λ n. n ≤ size_limit) (sym (same_size k alike)) asked.small;
        }

    reduce_can : CanBeSearched Reduce (question_of w t Reduce)
    reduce_can = part_can Reduce kind.Reducescatter (λ e. absurd cc) (λ e. absurd cc) refl refl

    gather_can : CanBeSearched Gather (question_of w t Gather)
    gather_can = part_can Gather kind.Allgather (λ e. absurd cc) (λ e. absurd cc) refl refl

  part_can_be_searched : (part : Part) → Contains (parts_of w.collective.kind) part → CanBeSearched part (question_of w t part)
  part_can_be_searched part at = elim (parts_are w.collective.kind) [
    | inl one ↦ subst (λ p. CanBeSearched p (question_of w t p)) (sym (in_one part (subst (λ parts. Contains parts part) one.1 at))) (whole_can one.0)
    | inr two ↦ elim (in_two part (subst (λ parts. Contains parts part) two.1 at)) [
      | inl reduce ↦ subst (λ p. CanBeSearched p (question_of w t p)) (sym reduce) (reduce_can two.0)
      | inr gather ↦ subst (λ p. CanBeSearched p (question_of w t p)) (sym gather) (gather_can two.0)
    ]
  ]

  -- as the code has it: of what it asks for in the part
  pub asked_for : (part : Part) (links : TopologyValue) (spec : Spec) (limits : LimitsValue) → links ≡ t.topology → spec ≡ (question_of w t part).spec → limits ≡ w.limits → Contains (parts_of w.collective.kind) part
      → CanBeSearched part (record { topology = links; spec = spec; limits = limits })
  asked_for part links spec limits over is within among =
      let given : QuestionValue = record { topology = links; spec = spec; limits = limits } in
      let same : given ≡ question_of w t part = rw (over, is, within) refl in
      subst (CanBeSearched part) (sym same) (part_can_be_searched part among)
