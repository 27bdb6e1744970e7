-- What is searched over the links that a fault left, in place of what was asked for.
use Rattle.std.proofs.Common.{◌≡◌, ◌≢◌, ◌<◌, ◌≤◌, ℕ, Bool, true, false, List, length, refl, sym, ap, subst, ◌∙◌, arith, if◌then◌else◌, All}
use Rattle.schedule.specs.{Links.{GroupValue, TopologyValue, reversed_of}, Judging.group_at}
use Rattle.collective_spec.specs.{declared.spec.Spec.Spec, Collectives.{IsSpec, adds_up, kind_in}}
use Rattle.collective_spec.specs.declared.kind.Kind.TheVariants as kind
use Rattle.candidate_order.specs.{declared.candidate.Candidate.Candidate, Frontiers.QuestionValue}
use Rattle.round_encoding.specs.Candidates.{size_limit}
use Rattle.candidate_formula.specs.{Formulas.{formula_for, searched_links}, Questions.copying_question, Sizes.size_of, Searched.searched_question}
use Rattle.engine_search.proofs.Searched.{same_formulas, searched_itself, searched_turned}
use Rattle.link_faults.{specs.{Narrowed.narrowed, Carrying.{IsOldRefuted, narrowed_question}}, proofs.{Reversed.{as_many_groups, group_turned, narrowed_turned, old_turned}, Sizes.no_larger}}
use Rattle.degraded_links.specs.Keeping.{question_over}

-- ---- the links

module _ (t : TopologyValue) (g : ℕ) where
  abbrev turned_if : Bool → TopologyValue → TopologyValue
  turned_if b links = if b then reversed_of links else links

  as_many : (b : Bool) → length (turned_if b t).groups ≡ length t.groups
  as_many true = as_many_groups t
  as_many false = refl

  as_wide : (b : Bool) → (group_at (turned_if b t) g).width ≡ (group_at t g).width
  as_wide true = ap (λ (x : GroupValue). x.width) (group_turned t g)
  as_wide false = refl

  narrowed_if : (w : ℕ) (b : Bool) → turned_if b (narrowed t g w) ≡ narrowed (turned_if b t) g w
  narrowed_if w true = sym (narrowed_turned t g w)
  narrowed_if w false = refl

module _ (t before : TopologyValue) (s : Spec) (g w : ℕ) (own : before ≡ searched_links t s) where
  pub has_group : g < length t.groups → g < length before.groups
  has_group low = let same : length before.groups ≡ length t.groups = ap (λ (x : TopologyValue). length x.groups) own ∙ as_many t g (adds_up s) in omega (arith, low, same)

  pub is_wider : w < (group_at t g).width → w < (group_at before g).width
  is_wider less = let same : (group_at before g).width ≡ (group_at t g).width = ap (λ (x : TopologyValue). (group_at x g).width) own ∙ as_wide t g (adds_up s) in omega (arith, less, same)

  pub links_narrowed : {left links : TopologyValue} → left ≡ narrowed t g w → links ≡ searched_links left s → links ≡ narrowed before g w
  links_narrowed {left} {links} is turned = turned ∙ ap (λ (x : TopologyValue). searched_links x s) is ∙ narrowed_if t g w (adds_up s) ∙ ap (λ (x : TopologyValue). narrowed x g w) (sym own)

-- ---- what is asked for

module _ (q : QuestionValue) (g w : ℕ) where
  pub left_small : (left links : TopologyValue) → left ≡ narrowed q.topology g w → w < (group_at q.topology g).width → size_of q ≤ size_limit
      → size_of (record { topology = links; spec = q.spec; limits = q.limits }) ≡ size_of (record { topology = left; spec = q.spec; limits = q.limits }) → size_of (record { topology = links; spec = q.spec; limits = q.limits }) ≤ size_limit
  left_small left links is less small same =
      let here : size_of (record { topology = left; spec = q.spec; limits = q.limits }) ≡ size_of (narrowed_question q g w) = ap (λ (x : TopologyValue). size_of (record { topology = x; spec = q.spec; limits = q.limits })) is in
      let fewer : size_of (narrowed_question q g w) ≤ size_of q = no_larger q g w (omega (arith, less)) in
      subst (λ n. n ≤ size_limit) (sym (same ∙ here)) (omega (arith, fewer, small))

  pub left_question : {left : TopologyValue} → left ≡ narrowed q.topology g w → record { topology = left; spec = q.spec; limits = q.limits } ≡ narrowed_question q g w
  left_question is = ap (λ (x : TopologyValue). record { topology = x; spec = q.spec; limits = q.limits }) is

-- ---- the old candidates

module _ (q : QuestionValue) (old : List Candidate) (single : kind_in q.spec ≢ kind.Allreduce) (fits : IsSpec q.topology.nodes q.spec) (refuted : All (IsOldRefuted q) old) where
  refuted_if : (b : Bool) → adds_up q.spec ≡ b → All (IsOldRefuted (searched_question q)) old
  refuted_if true adds = subst (λ p. All (IsOldRefuted p) old) (sym (searched_turned q adds)) (old_turned q old adds single fits refuted)
  refuted_if false copies = subst (λ p. All (IsOldRefuted p) old) (sym (searched_itself q copies)) refuted

  -- over the links as they were, of the question of the engine within
  pub old_searched : {before links : TopologyValue} {own : QuestionValue} → before ≡ searched_links q.topology q.spec → own ≡ copying_question links q.spec q.limits → All (IsOldRefuted (question_over before own)) old
  old_searched {before} {links} {own} turned made =
      let same : question_over before own ≡ searched_question q = ap (question_over before) made ∙ ap (λ (x : TopologyValue). copying_question x q.spec q.limits) turned in
      subst (λ p. All (IsOldRefuted p) old) (sym same) (refuted_if (adds_up q.spec) refl)

-- ---- the formulas

pub formula_left : (q : QuestionValue) (own : QuestionValue) (x : Candidate) → own ≡ searched_question q → kind_in q.spec ≢ kind.Allreduce → formula_for own x ≡ formula_for q x
formula_left q own x made single = ap (λ (p : QuestionValue). formula_for p x) made ∙ same_formulas q x single
