-- Chunks that come to a node twice, send by send.
use Rattle.std.proofs.{Common.{◌≡◌, ℕ, suc, ◌+◌, ◌<◌, ◌≤◌, Bool, true, false, ◌||◌, cond, eqb, leb, List, [], ◌∷◌, ◌++◌, length, get_or, take, refl, sym, ap, ◌∙◌, subst, arith, count_by}, lemmas.Bool.{and_parts, eq-eqb, both_ways}}
use Rattle.std.{proofs.lemmas.{Bool.Decides.nat_tests, List.{take_more, take_all, Sums.{sum_by-append, sum_by-cons}}}, specs.List.filter}
use Rattle.schedule.{specs.{declared.hop.Hop.Hop, Placed.{PlacementValue, empty_placement, holds, placed, same_pair, with_pair}, Summing.goes_to}, proofs.{Joining.step_alone, Placing.{holds-placed, pair_is, placed-alike, placed-none}}}

abbrev pub arrivals : ℕ → ℕ × ℕ → List Hop → ℕ
arrivals step pair hops = count_by (goes_to step pair) hops

-- the pairs to which so many of the sends come
abbrev pub met_by : ℕ → ℕ → ℕ → ℕ → List Hop → PlacementValue
met_by least chunks nodes step hops = placed chunks nodes (λ pair. leb least (arrivals step pair hops))

pub met_none : (least chunks nodes step : ℕ) → empty_placement chunks nodes ≡ met_by (suc least) chunks nodes step []
met_none least chunks nodes step = grind (arith, placed-none, nat_tests)

-- ---- one more send of the step

abbrev comes_to : Hop → ℕ × ℕ → Bool
comes_to h pair = same_pair (h.chunk, h.to) pair

arrivals_more : (step : ℕ) (pair : ℕ × ℕ) (hops : List Hop) (h : Hop) → h.step ≡ step → arrivals step pair (hops ++ h ∷ []) ≡ arrivals step pair hops + cond (comes_to h pair) 1 0
arrivals_more step pair hops h now = grind (arith, sum_by-cons, eq-eqb, sum_by-append)

once_more : (comes : Bool) (least n m : ℕ) → m ≡ n + cond comes 1 0 → (comes ≡ true → leb least n ≡ true) → (comes || leb (suc least) n) ≡ leb (suc least) m
once_more comes least n m is often = grind (arith, nat_tests)

-- where the send's pair is met so often, it is met once more
pub met_added : (least chunks nodes step : ℕ) (hops : List Hop) (h : Hop) → h.step ≡ step → leb least (arrivals step (h.chunk, h.to) hops) ≡ true → with_pair (met_by (suc least) chunks nodes step hops) (h.chunk, h.to) ≡ met_by (suc least) chunks nodes step (hops ++ h ∷ [])
met_added least chunks nodes step hops h now met =
    placed-alike chunks nodes _ _ (λ pair c n.
    ap (λ b. comes_to h pair || b) (holds-placed chunks nodes (λ p. leb (suc least) (arrivals step p hops)) pair c n) ∙ at pair)
  where
    at : (pair : ℕ × ℕ) → (comes_to h pair || leb (suc least) (arrivals step pair hops)) ≡ leb (suc least) (arrivals step pair (hops ++ h ∷ []))
    at pair =
        once_more (comes_to h pair) least (arrivals step pair hops) (arrivals step pair (hops ++ h ∷ [])) (arrivals_more step pair hops h now)
        (λ same. subst (λ (p : ℕ × ℕ). leb least (arrivals step p hops) ≡ true) (pair_is (h.chunk, h.to) pair same) met)

unchanged : (comes : Bool) (least n m : ℕ) → m ≡ n + cond comes 1 0 → (comes ≡ true → leb least n ≡ true → leb (suc least) n ≡ true) → leb (suc least) n ≡ leb (suc least) m
unchanged comes least n m is already = grind (arith, nat_tests)

-- where the send's pair is met that often already, or not nearly, nothing changes
pub met_kept : (least chunks nodes step : ℕ) (hops : List Hop) (h : Hop) → h.step ≡ step → (leb least (arrivals step (h.chunk, h.to) hops) ≡ true → leb (suc least) (arrivals step (h.chunk, h.to) hops) ≡ true) → met_by (suc least) chunks nodes step hops ≡ met_by (suc least) chunks nodes step (hops ++ h ∷ [])
met_kept least chunks nodes step hops h now settled = placed-alike chunks nodes _ _ (λ pair c n. at pair)
  where
    at : (pair : ℕ × ℕ) → leb (suc least) (arrivals step pair hops) ≡ leb (suc least) (arrivals step pair (hops ++ h ∷ []))
    at pair =
        unchanged (comes_to h pair) least (arrivals step pair hops) (arrivals step pair (hops ++ h ∷ [])) (arrivals_more step pair hops h now)
        (λ same. subst (λ (p : ℕ × ℕ). leb least (arrivals step p hops) ≡ true → leb (suc least) (arrivals step p hops) ≡ true) (pair_is (h.chunk, h.to) pair same) settled)

-- ---- the loop over the sends of a step

-- the pairs that are met, and those that are met twice
pub record IsMet (chunks nodes step : ℕ) (hops : List Hop) (met twice : PlacementValue) : Type 0 where
  pub met_is : met ≡ met_by 1 chunks nodes step hops
  pub twice_is : twice ≡ met_by 2 chunks nodes step hops

-- one more whose pair is met already
pub again : (chunks nodes step : ℕ) (all sends : List Hop) (i : ℕ) (d : Hop) (met twice more : PlacementValue) → sends ≡ filter (λ h. eqb h.step step) all → i < length sends → (get_or sends i d).chunk < chunks → (get_or sends i d).to < nodes
    → IsMet chunks nodes step (take i sends) met twice → holds met ((get_or sends i d).chunk, (get_or sends i d).to) ≡ true → more ≡ with_pair twice ((get_or sends i d).chunk, (get_or sends i d).to) → IsMet chunks nodes step (take (i + 1) sends) met more
again chunks nodes step all sends i d met twice more mine inside c n so_far held is =
    let h : Hop = get_or sends i d in
    let target : ℕ × ℕ = (h.chunk, h.to) in
    let hops : List Hop = take i sends in
    let now : h.step ≡ step = step_alone step all sends mine i d inside in
    let once : leb 1 (arrivals step target hops) ≡ true = sym (ap (λ p. holds p target) so_far.met_is ∙ holds-placed chunks nodes (λ p. leb 1 (arrivals step p hops)) target c n) ∙ held in
    let longer : hops ++ h ∷ [] ≡ take (i + 1) sends = sym (take_more sends i d inside) in
    record {
      met_is = so_far.met_is ∙ (met_kept 0 chunks nodes step hops h now (λ some. once) ∙ ap (met_by 1 chunks nodes step) longer);
      twice_is = is ∙ (ap (λ p. with_pair p target) so_far.twice_is ∙ (met_added 1 chunks nodes step hops h now once ∙ ap (met_by 2 chunks nodes step) longer));
    }

-- one more whose pair is not
pub first_time : (chunks nodes step : ℕ) (all sends : List Hop) (i : ℕ) (d : Hop) (met twice more : PlacementValue) → sends ≡ filter (λ h. eqb h.step step) all → i < length sends → (get_or sends i d).chunk < chunks → (get_or sends i d).to < nodes
    → IsMet chunks nodes step (take i sends) met twice → holds met ((get_or sends i d).chunk, (get_or sends i d).to) ≡ false → more ≡ with_pair met ((get_or sends i d).chunk, (get_or sends i d).to) → IsMet chunks nodes step (take (i + 1) sends) more twice
first_time chunks nodes step all sends i d met twice more mine inside c n so_far lacks is =
    let h : Hop = get_or sends i d in
    let target : ℕ × ℕ = (h.chunk, h.to) in
    let hops : List Hop = take i sends in
    let now : h.step ≡ step = step_alone step all sends mine i d inside in
    let never : leb 1 (arrivals step target hops) ≡ false = sym (ap (λ p. holds p target) so_far.met_is ∙ holds-placed chunks nodes (λ p. leb 1 (arrivals step p hops)) target c n) ∙ lacks in
    let longer : hops ++ h ∷ [] ≡ take (i + 1) sends = sym (take_more sends i d inside) in
    record {
      met_is = is ∙ (ap (λ p. with_pair p target) so_far.met_is ∙ (met_added 0 chunks nodes step hops h now (grind (arith, nat_tests)) ∙ ap (met_by 1 chunks nodes step) longer));
      twice_is = so_far.twice_is ∙ (met_kept 1 chunks nodes step hops h now (λ once. absurd (both_ways _ never once)) ∙ ap (met_by 2 chunks nodes step) longer);
    }

-- the sends of other steps come to nothing
count_within : (p q : Hop → Bool) → ((h : Hop) → p h ≡ true → q h ≡ true) → (hops : List Hop) → count_by p (filter q hops) ≡ count_by p hops
count_within p q weaker [] = refl
count_within p q weaker (h ∷ hops) =
    grind (arith, weaker h, count_within p q weaker hops, sum_by-cons (λ x. cond (p x) 1 0) h hops, sum_by-cons (λ x. cond (p x) 1 0) h (filter q hops))

pub met_all : (chunks nodes step : ℕ) (all sends : List Hop) (i : ℕ) (met twice : PlacementValue) → sends ≡ filter (λ h. eqb h.step step) all → length sends ≤ i → IsMet chunks nodes step (take i sends) met twice → twice ≡ met_by 2 chunks nodes step all
met_all chunks nodes step all sends i met twice mine past so_far = grind (arith, take_all, placed-alike, count_within, and_parts)
