-- Two ascending lists of which each has what the other has, as long as they agree on what comes before it, are one list.
use Rattle.std.proofs.{Common.{◌≡◌, ℕ, zero, suc, ◌<◌, List, inl, inr, sym, ap, ◌∙◌, subst, arith, AllPairs, Contains, get_or}, lemmas.{Bool.cases_order, List.get_or_default}}
use Rattle.candidate_order.proofs.Unique.{one_list}

-- an item of the first list stands in the second, where the items of the second before it stand in the first
abbrev pub Settles : {X : Type 0} → (X → X → Type 0) → List X → List X → Type 0
Settles {X} R xs ys = (x : X) → Contains xs x → ((y : X) → Contains ys y → R y x → Contains xs y) → Contains ys x

module _ {X : Type 0} (R : X → X → Type 0) (P : X → Type 0) (never_both : (a b : X) → R a b → R b a → ⊥) (follows : (a b c : X) → P a → P b → P c → R a b → R b c → R a c) where
  abbrev Are : List X → Type 0
  Are xs = (x : X) → Contains xs x → P x

  -- in an ascending list, what comes before an item, by one in between, stands before it
  earlier : (xs : List X) → Are xs → AllPairs R xs → (x y z : X) (here : Contains xs x) → P y → R y x → (there : Contains xs z) → R z y → there.0 < here.0
  earlier xs are up x y z (k, below_k, at_k) py before (j, below_j, at_j) lower =
      elim (cases_order k j) [
        | inl same ↦ (
            let is : z ≡ x = sym at_j ∙ get_or_default xs j z x below_j ∙ ap (λ i. get_or xs i x) (sym same) ∙ at_k in
            absurd (never_both x y (subst (λ w. R w y) is lower) before)
            )
        | inr (inl first) ↦ (
            let last : get_or xs j x ≡ z = get_or_default xs j x z below_j ∙ at_j in
            let after : R x z = rw (at_k, last) at (up k j x first below_j) in
            absurd (never_both x y (follows x z y (are x (k, below_k, at_k)) (are z (j, below_j, at_j)) py after lower) before)
            )
        | inr (inr less) ↦ less
      ]

  all_there : (xs ys : List X) → Are xs → Are ys → Settles R xs ys → Settles R ys xs → AllPairs R xs → (n : ℕ) (x : X) (here : Contains xs x) → here.0 < n → Contains ys x
  all_there xs ys px py forth back up zero x here less = absurd (omega arith)
  all_there xs ys px py forth back up (suc n) x here less =
      forth x here (λ y has before. back y has (λ z there lower.
      all_there xs ys px py forth back up n z there (omega (arith, less, earlier xs px up x y z here (py y has) before there lower))))

  pub one_by_turns : (xs ys : List X) → Are xs → Are ys → Settles R xs ys → Settles R ys xs → AllPairs R xs → AllPairs R ys → xs ≡ ys
  one_by_turns xs ys px py forth back first second = one_list R never_both xs ys first second (λ x. (
    λ here. all_there xs ys px py forth back first (suc here.0) x here (omega arith),
    λ here. all_there ys xs py px back forth second (suc here.0) x here (omega arith),
  ))
