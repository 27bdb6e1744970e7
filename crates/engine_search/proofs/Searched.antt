-- What is searched in place of a question.
use Rattle.std.proofs.Common.{◌≡◌, ◌≢◌, ◌∙◌, ℕ, Bool, true, false, List, refl, sym, ap, subst, ◌↔◌, ◌+◌, ◌≤◌, if◌then◌else◌, IsTrue, Contains}
use Rattle.schedule.specs.Links.{TopologyValue, reversed_of}
use Rattle.collective_spec.specs.{declared.kind.Kind.Kind, Collectives.{adds_up, kind_in}, Kinds.allows}
use Rattle.collective_spec.specs.declared.kind.Kind.TheVariants as kind
use Rattle.candidate_order.specs.{declared.candidate.Candidate.Candidate, Copied.copied_question, Frontiers.{QuestionValue, IsWithin}, Listed.AreAllowed, Ranges.LimitsValue}
use Rattle.candidate_formula.specs.{Formulas.{formula_for, searched_links}, Questions.copying_question, Sizes.size_of, Searched.searched_question}
use Rattle.candidate_formula.proofs.{CopyingQuestions.reduced_formula, Copying.{copied_stays, same_allowed}, TurnedSize.copied_size}

-- ---- a reduction as its copy over the links turned round, and what copies as it is

pub searched_turned : (q : QuestionValue) → adds_up q.spec ≡ true → searched_question q ≡ copied_question q
searched_turned q adds = ap (λ b. copying_question (if b then reversed_of q.topology else q.topology) q.spec q.limits) adds

pub searched_itself : (q : QuestionValue) → adds_up q.spec ≡ false → searched_question q ≡ q
searched_itself q copies =
    ap (λ b. copying_question (if b then reversed_of q.topology else q.topology) q.spec q.limits) copies
    ∙ ap (λ s. record { topology = q.topology; spec = s; limits = q.limits }) (copied_stays q.spec copies)

-- what holds in both cases holds
by_cases : (q : QuestionValue) (P : QuestionValue → Type 0) → (adds_up q.spec ≡ true → P (copied_question q)) → (adds_up q.spec ≡ false → P q) → P (searched_question q)
by_cases q P adds copies = with_test (adds_up q.spec) refl
  where
    with_test : (b : Bool) → adds_up q.spec ≡ b → P (searched_question q)
    with_test true is = subst P (sym (searched_turned q is)) (adds is)
    with_test false is = subst P (sym (searched_itself q is)) (copies is)

pub as_large : (q : QuestionValue) → size_of (searched_question q) ≡ size_of q
as_large q = by_cases q (λ p. size_of p ≡ size_of q) (λ adds. copied_size q) (λ copies. refl)

pub same_formulas : (q : QuestionValue) (x : Candidate) → kind_in q.spec ≢ kind.Allreduce → formula_for (searched_question q) x ≡ formula_for q x
same_formulas q x single = by_cases q (λ p. formula_for p x ≡ formula_for q x) (λ adds. reduced_formula q x adds single) (λ copies. refl)

-- ---- the same candidates

within_as : (q p : QuestionValue) (x : Candidate) → p.limits ≡ q.limits → allows (kind_in p.spec) p.topology.nodes x.c ≡ allows (kind_in q.spec) q.topology.nodes x.c → IsWithin p x → IsWithin q x
within_as q p x limits same w = record {
  some_steps = w.some_steps;
  steps = subst (λ (l : LimitsValue). x.s ≤ l.max_s) limits w.steps;
  all_rounds = w.all_rounds;
  rounds = subst (λ (l : LimitsValue). x.r ≤ x.s + l.k) limits w.rounds;
  chunks = subst (λ (l : LimitsValue). x.c ≤ l.max_c) limits w.chunks;
  allowed = subst IsTrue same w.allowed;
}

-- a chunk count is allowed where it was
pub allowed_alike : (q : QuestionValue) (c : ℕ) → allows (kind_in (searched_question q).spec) (searched_question q).topology.nodes c ≡ allows (kind_in q.spec) q.topology.nodes c
allowed_alike q c = by_cases q (λ p. allows (kind_in p.spec) p.topology.nodes c ≡ allows (kind_in q.spec) q.topology.nodes c) (λ adds. same_allowed q.spec q.topology.nodes c) (λ copies. refl)

pub within_alike : (q : QuestionValue) (x : Candidate) → IsWithin (searched_question q) x ↔ IsWithin q x
within_alike q x = (within_as q (searched_question q) x refl (allowed_alike q x.c), within_as (searched_question q) q x refl (sym (allowed_alike q x.c)))

-- ---- as the code has it: the counts of the question that an engine was made for

pub allowed_for : {own : QuestionValue} (q : QuestionValue) (kind : Kind) (nodes : ℕ) (counts given : List ℕ) → own ≡ searched_question q → kind ≡ kind_in q.spec → nodes ≡ q.topology.nodes → given ≡ counts
    → AreAllowed q.limits kind nodes counts → AreAllowed q.limits (kind_in own.spec) own.topology.nodes given
allowed_for {own} q kind nodes counts given same own_kind as_many listed allowed =
    subst (λ (x : QuestionValue). AreAllowed q.limits (kind_in x.spec) x.topology.nodes given) (sym same) (λ c.
    let here : allows kind nodes c ≡ allows (kind_in q.spec) q.topology.nodes c = ap (λ k. allows k nodes c) own_kind ∙ ap (λ n. allows (kind_in q.spec) n c) as_many in
    let alike : allows kind nodes c ≡ allows (kind_in (searched_question q).spec) (searched_question q).topology.nodes c = here ∙ sym (allowed_alike q c) in
    (λ at. let is = (allowed c).0 (subst (λ (xs : List ℕ). Contains xs c) listed at) in (is.0, subst IsTrue alike is.1), λ is. subst (λ (xs : List ℕ). Contains xs c) (sym listed) ((allowed c).1 (is.0, subst IsTrue (sym alike) is.1))))

-- ---- as a caller has it: the question of the engine that it made for the links to search over

pub made_for : {own : QuestionValue} (q : QuestionValue) (given links : TopologyValue) → own ≡ copying_question given q.spec q.limits → given ≡ links → links ≡ searched_links q.topology q.spec → own ≡ searched_question q
made_for q given links same lent turned = same ∙ ap (λ (t : TopologyValue). copying_question t q.spec q.limits) (lent ∙ turned)
