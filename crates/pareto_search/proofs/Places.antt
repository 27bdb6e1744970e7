-- The places in the list of a step's candidates, and what comes before them.
use Rattle.std.proofs.{Common.{◌≡◌, ◌+◌, ◌<◌, ◌≤◌, ℕ, inl, inr, ⊎_elim, Option, None, List, length, get_or, subst, ap, sym, ◌∙◌, arith, All, AllPairs, Contains, ◌↔◌, slice_index_or}, lemmas.Bool.{cases_eq, cases_order, and_parts, leb-true}}
use Rattle.std.proofs.lemmas.List.{get_or_default, Elements.{All-weaker, Contains-get_or}}
use Rattle.schedule.specs.Sends.{ScheduleValue}
use Rattle.collective_spec.specs.{Collectives.kind_in, declared.kind.Kind.Kind}
use Rattle.candidate_order.specs.{declared.candidate.Candidate.Candidate, Costs.Before, Ranges.LimitsValue, Listed.{Within, IsListed, IsCount, AreAllowed}, Frontiers.{QuestionValue, FrontierValue, IsWithin}}
use Rattle.candidate_order.proofs.Orders.{listed-within, Before-irrefl}
use Rattle.engine_rules.specs.Outcomes.{RecordValue}
use Rattle.pareto_search.{specs.{inner.Passing.{HasFewerSteps, IsBefore, IsUpTo, IsThrough, IsStep, HasPassed}, Recorded.{StaysWithin, IsStoppedWithin}}, proofs.Costs.Before-asym}

-- the same candidates are passed, said in another way
pub replaced : (q : QuestionValue) (suits : Candidate → ScheduleValue → Type 0) (passed now : Candidate → Type 0) (entries : RecordValue) (f : FrontierValue) → ((x : Candidate) → passed x ↔ now x) → HasPassed q suits passed entries f → HasPassed q suits now entries f
replaced q suits passed now entries f same was = record {
  ascends = was.ascends;
  were_passed = λ k d below. (same (slice_index_or entries k d).0).0 (was.were_passed k d below);
  lists = was.lists;
  said = was.said;
  judged = λ x h. was.judged x ((same x).1 h);
}

module _ (q : QuestionValue) (step : ℕ) (xs : List Candidate) (list : IsStep q step xs) where
  module _ (i : ℕ) (here : Candidate) (below : i < length xs) (at : here ≡ get_or xs i here) (x : Candidate) where
    is : (here.s ≡ step) × IsWithin q here
    is = (list.members here).0 (i, below, sym at)

    last : get_or xs i x ≡ here
    last = get_or_default xs i x here below ∙ sym at

    through_before : IsThrough q step xs i x → IsBefore q here x
    through_before (inl (within, fewer)) = (within, inl (omega (arith, is.0)))
    through_before (inr (j, front, inside, there)) =
        let first : Before (get_or xs j x) (get_or xs i x) = list.ascends j i x front below in
        (((list.members x).0 (j, inside, there)).1, rw (there, last) at first)

    before_through : IsBefore q here x → IsThrough q step xs i x
    before_through (within, inl fewer) = inl (within, omega (arith, is.0))
    before_through (within, inr (same, h)) =
        let (j, inside, there) = (list.members x).1 (same ∙ is.0, within) in
        elim (cases_order j i) [
          | inl equal ↦ (
              let twice : x ≡ here = sym there ∙ (ap (λ k. get_or xs k x) equal ∙ last) in
              absurd (Before-irrefl here (subst (λ y. Before y here) twice (inr (same, h))))
              )
          | inr (inl front) ↦ inr (j, front, inside, there)
          | inr (inr behind) ↦ (
              let later : Before (get_or xs i x) (get_or xs j x) = list.ascends i j x behind inside in
              absurd (Before-asym q x here within is.1 (inr (same, h)) (rw (last, there) at later))
              )
        ]

    pub before_here : IsThrough q step xs i x ↔ IsBefore q here x
    before_here = (through_before, before_through)

    upto_through : IsUpTo q here x → IsThrough q step xs (i + 1) x
    upto_through (inl before) = ⊎_elim inl (λ front. inr (front.0, omega (arith, front.1), front.2, front.3)) (before_through before)
    upto_through (inr same) = inr (i, omega arith, below, last ∙ sym same)

    through_upto : IsThrough q step xs (i + 1) x → IsUpTo q here x
    through_upto (inl fewer) = inl (through_before (inl fewer))
    through_upto (inr (j, front, inside, there)) =
        elim (cases_eq j i) [
          | inl equal ↦ inr (sym there ∙ (ap (λ k. get_or xs k x) equal ∙ last))
          | inr other ↦ inl (through_before (inr (j, omega (arith, front, other), inside, there)))
        ]

    pub up_to_here : IsUpTo q here x ↔ IsThrough q step xs (i + 1) x
    up_to_here = (upto_through, through_upto)

  pub none_yet : (x : Candidate) → HasFewerSteps q step x ↔ IsThrough q step xs 0 x
  none_yet x = (inl, ⊎_elim (λ fewer. fewer) (λ front. absurd (omega (arith, front.1))))

  pub whole_step : (x : Candidate) → IsThrough q step xs (length xs) x ↔ HasFewerSteps q (step + 1) x
  whole_step x = (there, back) where
    there : IsThrough q step xs (length xs) x → HasFewerSteps q (step + 1) x
    there (inl (within, fewer)) = (within, omega arith)
    there (inr (j, front, inside, at)) =
        let member = (list.members x).0 (j, inside, at) in
        (member.1, omega (arith, member.0))

    back : HasFewerSteps q (step + 1) x → IsThrough q step xs (length xs) x
    back (within, below) =
        elim (cases_order x.s step) [
          | inl same ↦ (let (j, inside, at) = (list.members x).1 (same, within) in inr (j, inside, inside, at))
          | inr (inl fewer) ↦ inl (within, fewer)
          | inr (inr more) ↦ absurd (omega arith)
        ]

-- the chunk counts that are allowed are from 1 to the greatest
pub counts_allowed : (limits : LimitsValue) (kind : Kind) (nodes : ℕ) (counts : List ℕ) → AreAllowed limits kind nodes counts → All (IsCount limits.max_c) counts
counts_allowed limits kind nodes counts allowed k d below =
    let c = slice_index_or counts k d in
    let told = (allowed c).0 (Contains-get_or counts k d below) in
    (leb-true 1 c (and_parts _ _ told.1).0, told.0)

-- the list that is made for a step has its candidates
pub listed_step : (q : QuestionValue) (limits : LimitsValue) (allowed : List ℕ) (step : ℕ) (xs ys : List Candidate) → q.limits ≡ limits → AreAllowed limits (kind_in q.spec) q.topology.nodes allowed → 1 ≤ step → step ≤ limits.max_s → ((x : Candidate) → Contains xs x ↔ IsListed limits.k step allowed x) → AllPairs Before xs → ys ≡ xs → IsStep q step ys
listed_step q limits allowed step xs ys same counts some upto members up are =
    subst (IsStep q step) (sym are) (record {
      members = λ x.
          let listed = listed-within limits (kind_in q.spec) q.topology.nodes step allowed some upto counts x in (
            λ h. let told = listed.0 ((members x).0 h) in (told.0, subst (λ l. Within l (kind_in q.spec) q.topology.nodes x) (sym same) told.1),
            λ h. (members x).1 (listed.1 (h.0, subst (λ l. Within l (kind_in q.spec) q.topology.nodes x) same h.1)),
          );
      ascends = up;
    })

-- a search whose engine didn't fail stays within the limits
pub starts_within : (q : QuestionValue) (passed : Candidate → Type 0) (entries : RecordValue) (stopped : Option Candidate) → ((x : Candidate) → passed x → IsWithin q x) → All (λ e. passed e.0) entries → stopped ≡ None → StaysWithin q entries stopped
starts_within q passed entries stopped inside were running = record {
  settled = All-weaker (λ e. passed e.0) (λ e. IsWithin q e.0) (λ e h. inside e.0 h) entries were;
  failed = subst (IsStoppedWithin q) (sym running) tt;
}
