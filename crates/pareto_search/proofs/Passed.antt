-- One candidate more is in the record.
use Rattle.std.proofs.{Common.{◌≡◌, ◌⊎◌, inl, inr, ⊎_elim, refl, List, [], ◌∷◌, ◌++◌, subst, ap, sym, Contains}, lemmas.List.Elements.{Contains-append_left, Contains-push, Contains-push_cases}}
use Rattle.candidate_order.{specs.{declared.{candidate.Candidate.Candidate, mark.Mark.Mark}, Costs.{Better, Before}, Frontiers.{QuestionValue, IsWithin}}, proofs.Orders.Before-irrefl}
use Rattle.engine_rules.specs.{declared.settled.Settled.{Settled, TheVariants.Solved}, Outcomes.RecordValue}
use Rattle.pareto_search.{specs.inner.Passing.{IsBefore, IsUpTo, IsWorth, IsJudged, IsMark}, proofs.Costs.{Before-asym, better_first}}

module _ (q : QuestionValue) (here : Candidate) (within : IsWithin q here) where
  -- what is passed does not come after the candidate
  not_after : (x : Candidate) → IsUpTo q here x → Before here x → ⊥
  not_after x (inl before) after = Before-asym q x here before.0 within before.1 after
  not_after x (inr same) after = Before-irrefl here (subst (Before here) same after)

  module _ (entries : RecordValue) (kind : Settled) where
    stays : (e : Candidate × Settled) → Contains entries e → Contains (entries ++ (here, kind) ∷ []) e
    stays e at = Contains-append_left entries ((here, kind) ∷ []) e at

    was_or_is : (x : Candidate) (k : Settled) → Contains (entries ++ (here, kind) ∷ []) (x, k) → Contains entries (x, k) ⊎ (here ≡ x)
    was_or_is x k at =
        ⊎_elim inl (λ same. inr (ap (λ (e : Candidate × Settled). e.0) same)) (Contains-push_cases entries (here, kind) (x, k) at)

    worth_more : (x : Candidate) → IsUpTo q here x → IsWorth entries x → IsWorth (entries ++ (here, kind) ∷ []) x
    worth_more x upto worth p at before h = ⊎_elim
        (λ was. worth p was before h)
        (λ (same : here ≡ p). not_after x upto (subst (λ y. Before y x) (sym same) before))
        (was_or_is p Solved at)

    -- the candidate is settled, since no point is no worse
    pub judged_more : IsWorth entries here → ((x : Candidate) → IsBefore q here x → IsJudged entries x) → (x : Candidate) → IsUpTo q here x → IsJudged (entries ++ (here, kind) ∷ []) x
    judged_more worth judged x (inr same) =
        subst (IsJudged (entries ++ (here, kind) ∷ [])) (sym same) (inl ((kind, Contains-push entries (here, kind)), worth_more here (inr refl) worth))
    judged_more worth judged x (inl before) = by_cases (judged x before)
      where
        by_cases : IsJudged entries x → IsJudged (entries ++ (here, kind) ∷ []) x
        by_cases (inl ((k, at), still)) = inl ((k, stays (x, k) at), worth_more x (inl before) still)
        by_cases (inr (never, (p, at, first, h))) = inr (
          λ settled. ⊎_elim
              (λ was. never (settled.0, was))
              (λ (same : here ≡ x). Before-irrefl here (subst (λ y. Before y here) (sym same) before.1))
              (was_or_is x settled.0 settled.1),
          (p, stays (p, Solved) at, first, h),
        )

  -- a candidate that is given up is no better than the points before it
  pub mark_stays : (unknown : List Candidate) (x : Candidate) (mark : Mark) → IsBefore q here x → IsMark unknown x mark → IsMark (unknown ++ here ∷ []) x mark
  mark_stays unknown x mark before is = record {
    optimal = (
      λ e u at better. ⊎_elim
          (λ was. is.optimal.0 e u was better)
          (λ (same : here ≡ u). not_after x (inl before) (better_first here x (subst (λ y. Better y x) (sym same) better)))
          (Contains-push_cases unknown here u at),
      λ none. is.optimal.1 (λ u at. none u (Contains-append_left unknown (here ∷ []) u at)),
    );
    or_open = is.or_open;
  }
