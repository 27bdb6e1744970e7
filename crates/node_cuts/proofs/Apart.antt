-- Groups that share no link with another may be taken at any turn, so the greedy cover is the same with these taken first.
use Rattle.std.proofs.Common.{◌≡◌, ℕ, zero, suc, ◌+◌, ◌-◌, ◌*◌, ◌<◌, ◌≤◌, ◌⊎◌, Bool, true, false, ◌&&◌, ◌||◌, List, [], ◌∷◌, ◌++◌, append_assoc, length, refl, sym, ap, ◌∙◌, ⊎_elim, arith, ◌==◌, Option, None, Some, filter, nat_lt, not}
use Rattle.std.proofs.lemmas.{List.{append-nil, Elements.filter_agree, Folds.list_any-append}, Bool.{both_ways, cases_eq, cases_order, cond_both, false_from_ne_true, and_parts, and_from, ne_eqb, not-true, not_from_false, or_left, or_right}}
use Rattle.std.{proofs.lemmas.List.FromFn.length-range_with_len, specs.{List.{AllByRecursion, list_any, range_with_len}, Option.option_map_or}}
use Rattle.list_laws.proofs.{Ranges.any_at, Tests.few_kept}
use Rattle.schedule.{specs.{Links.{TopologyValue, has_link}, Judging.group_at}, proofs.{First.{any_among, any_found, each_among}, Ordered.{among_from_any, any_from_among}}}
use Rattle.node_cuts.specs.{Sides.NodeSet, Opened.is_alone, Cuts.{all_groups, ascending, best_of, best_taken, better, opened, opens, opens_more}}
use Rattle.node_cuts.proofs.{Choosing.{IsChoice, IsMost, chosen, is_new}, Counting.{any_alike_of, count_alike_of}, Covered.in_range}

module _ (u : NodeSet) (t : TopologyValue) where
  -- ---- the order in which groups were taken says nothing

  -- no test tells these from those
  abbrev Same : List ℕ → List ℕ → Type 0
  Same a b = (p : ℕ → Bool) → list_any p a ≡ list_any p b

  same_more : (a b : List ℕ) (h : ℕ) → Same a b → Same (a ++ h ∷ []) (b ++ h ∷ [])
  same_more a b h same p = list_any-append p a (h ∷ []) ∙ ap (λ c. c || list_any p (h ∷ [])) (same p) ∙ sym (list_any-append p b (h ∷ []))

  turned : (taken : List ℕ) (g h : ℕ) → Same ((taken ++ g ∷ []) ++ h ∷ []) ((taken ++ h ∷ []) ++ g ∷ [])
  turned taken g h p = grind (arith, list_any-append p)

  better_same : (a b : List ℕ) → Same a b → (best : Option ℕ) (g : ℕ) → better u t a best g ≡ better u t b best g
  better_same a b same None g = grind arith
  better_same a b same (Some best) g = grind arith

  best_same : (a b : List ℕ) → Same a b → (best : Option ℕ) (gs : List ℕ) → best_of u t a best gs ≡ best_of u t b best gs
  best_same a b same best [] = refl
  best_same a b same best (g ∷ gs) = ap (λ o. best_of u t a o gs) (better_same a b same best g) ∙ best_same a b same (better u t b best g) gs

  by_best : (a b : List ℕ) (turns : ℕ) → Same a b → ((h : ℕ) → best_taken u t turns (a ++ h ∷ []) ≡ best_taken u t turns (b ++ h ∷ [])) → (best : Option ℕ)
      → option_map_or (λ h. best_taken u t turns (a ++ h ∷ [])) best (ascending t a) ≡ option_map_or (λ h. best_taken u t turns (b ++ h ∷ [])) best (ascending t b)
  by_best a b turns same more None = filter_agree (λ g. list_any (λ other. other == g) a) (λ g. list_any (λ other. other == g) b) (λ g. same (λ other. other == g)) (all_groups t)
  by_best a b turns same more (Some h) = more h

  in_any_order : (turns : ℕ) (a b : List ℕ) → Same a b → best_taken u t turns a ≡ best_taken u t turns b
  in_any_order zero a b same = refl
  in_any_order (suc turns) a b same = grind (arith, best_same a b same None, by_best a b turns same, same_more a b, in_any_order turns)

  -- ---- groups that were taken, by what they say of a group's links

  abbrev Agree : List ℕ → List ℕ → ℕ → Type 0
  Agree a b g = AllByRecursion (λ link. is_new u t a link ≡ is_new u t b link) (group_at t g).links

  opened_alike : (a b : List ℕ) (g : ℕ) → Agree a b g → opened u t a g ≡ opened u t b g
  opened_alike a b g agree = count_alike_of (is_new u t a) (is_new u t b) (group_at t g).links agree

  opens_alike : (a b : List ℕ) (g : ℕ) → Agree a b g → opens u t a g ≡ opens u t b g
  opens_alike a b g agree = any_alike_of (is_new u t a) (is_new u t b) (group_at t g).links agree

  -- taking a group says nothing of the links of one with which it shares none
  agree_past : (taken : List ℕ) (h g : ℕ) → ((link : ℕ × ℕ) → has_link (group_at t g) link ≡ true → has_link (group_at t h) link ≡ true → ⊥) → Agree taken (taken ++ h ∷ []) g
  agree_past taken h g apart = grind (arith, each_among, is_new, false_from_ne_true, any_from_among, list_any-append)

  -- ---- a group that shares no link with another

  module _ (g : ℕ) (alone : is_alone t g ≡ true) where
    never_both : (x : ℕ) → (x ≡ g → ⊥) → (link : ℕ × ℕ) → has_link (group_at t g) link ≡ true → has_link (group_at t x) link ≡ true → ⊥
    never_both x other link its stands =
        let of_it : ℕ × ℕ → Bool = has_link (group_at t g) in
        let p : ℕ → Bool = λ k. not (k == g) && list_any of_it (group_at t k).links in
        both_ways (list_any p (all_groups t)) (not-true (list_any p (all_groups t)) alone)
        (any_at p 0 (length t.groups) x (omega arith) (omega (arith, in_range t x link stands))
        (and_from (not (x == g)) (list_any of_it (group_at t x).links) (not_from_false (x == g) (ne_eqb x g other))
        (any_among of_it link (group_at t x).links (among_from_any link (group_at t x).links stands) its)))

    agree_others : (taken : List ℕ) (x : ℕ) → (x ≡ g → ⊥) → Agree taken (taken ++ g ∷ []) x
    agree_others taken x other = agree_past taken g x (λ link stands its. never_both x other link its stands)

    agree_itself : (taken : List ℕ) (h : ℕ) → (h ≡ g → ⊥) → Agree taken (taken ++ h ∷ []) g
    agree_itself taken h other = agree_past taken h g (never_both h other)

    -- once it is taken it opens nothing
    closed : (taken : List ℕ) → opens u t (taken ++ g ∷ []) g ≡ false
    closed taken = grind (arith, false_from_ne_true, any_found, is_new, both_ways, not-true, and_parts, list_any-append, or_right, or_left, any_from_among)

    -- the best stays the best once it is taken
    it_stays : (taken : List ℕ) (h : ℕ) → (h ≡ g → ⊥) → IsMost u t taken (length t.groups) h → (best : Option ℕ) → IsChoice u t (taken ++ g ∷ []) (length t.groups) best → best ≡ Some h
    it_stays taken h other before None none = absurd (both_ways (opens u t (taken ++ g ∷ []) h) (none h before.inside) (sym (opens_alike taken (taken ++ g ∷ []) h (agree_others taken h other)) ∙ before.opening))
    it_stays taken h other before (Some k) after =
        let now : List ℕ = taken ++ g ∷ [] in
        let another : k ≡ g → ⊥ = λ it. both_ways (opens u t now g) (closed taken) (ap (opens u t now) (sym it) ∙ after.opening) in
        let first : opened u t taken h ≡ opened u t now h = opened_alike taken now h (agree_others taken h other) in
        let second : opened u t taken k ≡ opened u t now k = opened_alike taken now k (agree_others taken k another) in
        ⊎_elim
        (λ (same : k ≡ h). ap Some same)
        (λ (apart : (k < h) ⊎ (h < k)).
        ⊎_elim
        (λ (below : k < h).
        absurd (both_ways (opens_more u t now h k) (after.most h before.inside (sym (opens_alike taken now h (agree_others taken h other)) ∙ before.opening))
        ((λ i. nat_lt (sym second i * (group_at t h).width) (sym first i * (group_at t k).width)) ∙ before.earlier k below (opens_alike taken now k (agree_others taken k another) ∙ after.opening))))
        (λ (above : h < k).
        absurd (both_ways (opens_more u t taken k h) (before.most k after.inside (opens_alike taken now k (agree_others taken k another) ∙ after.opening))
        ((λ i. nat_lt (first i * (group_at t k).width) (second i * (group_at t h).width)) ∙ after.earlier h above (sym (opens_alike taken now h (agree_others taken h other)) ∙ before.opening))))
        apart)
        (cases_order k h)

    -- ---- it may be taken first

    one_by_best : (turns : ℕ) (taken : List ℕ) → g < length t.groups → opens u t taken g ≡ true
        → ((h : ℕ) → (h ≡ g → ⊥) → best_of u t taken None (all_groups t) ≡ Some h → best_taken u t turns (taken ++ h ∷ []) ≡ best_taken u t turns (taken ++ g ∷ []))
        → (best : Option ℕ) → best_of u t taken None (all_groups t) ≡ best → option_map_or (λ h. best_taken u t turns (taken ++ h ∷ [])) best (ascending t taken) ≡ best_taken u t turns (taken ++ g ∷ [])
    one_by_best turns taken inside opening later None is = absurd (both_ways (opens u t taken g) (chosen u t taken None is g inside) opening)
    one_by_best turns taken inside opening later (Some h) is = grind (arith, cases_eq h)

    one_first : (turns : ℕ) (taken : List ℕ) → g < length t.groups → opens u t taken g ≡ true → best_taken u t (suc turns) taken ≡ best_taken u t turns (taken ++ g ∷ [])
    one_first zero taken inside opening = one_by_best zero taken inside opening (λ h other is. refl) (best_of u t taken None (all_groups t)) refl
    one_first (suc turns) taken inside opening =
        one_by_best (suc turns) taken inside opening (λ h other is.
        let after : Option ℕ = best_of u t (taken ++ g ∷ []) None (all_groups t) in
        one_first turns (taken ++ h ∷ []) inside (sym (opens_alike taken (taken ++ h ∷ []) g (agree_itself taken h other)) ∙ opening)
        ∙ in_any_order turns ((taken ++ h ∷ []) ++ g ∷ []) ((taken ++ g ∷ []) ++ h ∷ []) (turned taken h g)
        ∙ ap (λ o. option_map_or (λ k. best_taken u t turns ((taken ++ g ∷ []) ++ k ∷ [])) o (ascending t (taken ++ g ∷ []))) (sym (it_stays taken h other (chosen u t taken (Some h) is) after (chosen u t (taken ++ g ∷ []) after refl))))
        (best_of u t taken None (all_groups t)) refl

  -- ---- all of these may be

  abbrev pub first_ones : ℕ → Bool
  first_ones g = is_alone t g && opens u t [] g

  ones_first : (n a : ℕ) (taken : List ℕ) (turns : ℕ) → a + n ≤ length t.groups → ((k : ℕ) → a ≤ k → k < a + n → first_ones k ≡ true → opens u t taken k ≡ true)
      → best_taken u t (length (filter first_ones (range_with_len a n)) + turns) taken ≡ best_taken u t turns (taken ++ filter first_ones (range_with_len a n))
  ones_first zero a taken turns low each = let none : 0 + turns ≡ turns = omega arith in ap (λ k. best_taken u t k taken) none ∙ ap (best_taken u t turns) (sym (append-nil taken))
  ones_first (suc n) a taken turns low each =
      let rest : List ℕ = filter first_ones (range_with_len (a + 1) n) in
      cond_both (first_ones a) (a ∷ rest) rest (λ gs. best_taken u t (length gs + turns) taken ≡ best_taken u t turns (taken ++ gs))
      (λ kept.
      let alone : is_alone t a ≡ true = (and_parts (is_alone t a) (opens u t [] a) kept).0 in
      let size : suc (length rest) + turns ≡ suc (length rest + turns) = omega arith in
      let later : (k : ℕ) → a + 1 ≤ k → k < a + 1 + n → first_ones k ≡ true → opens u t (taken ++ a ∷ []) k ≡ true = λ k from to it.
      sym (opens_alike taken (taken ++ a ∷ []) k (agree_others a alone taken k (λ same. omega (arith, same, from)))) ∙ each k (omega (arith, from)) (omega (arith, to)) it in
      ap (λ k. best_taken u t k taken) size
      ∙ one_first a alone (length rest + turns) taken (omega (arith, low)) (each a (omega arith) (omega arith) kept)
      ∙ ones_first n (a + 1) (taken ++ a ∷ []) turns (omega (arith, low)) later
      ∙ ap (best_taken u t turns) (append_assoc taken (a ∷ []) rest))
      (λ left. ones_first n (a + 1) taken turns (omega (arith, low)) (λ k from to it. each k (omega (arith, from)) (omega (arith, to)) it))

  -- the greedy cover is the same with the groups that share no link with another taken first
  pub alone_first : best_taken u t (length t.groups - length (filter first_ones (all_groups t))) (filter first_ones (all_groups t)) ≡ best_taken u t (length t.groups) []
  alone_first =
      let few : length (filter first_ones (all_groups t)) ≤ length t.groups = omega (arith, few_kept first_ones (all_groups t), length-range_with_len 0 (length t.groups)) in
      let turns : ℕ = length t.groups - length (filter first_ones (all_groups t)) in
      let whole : length (filter first_ones (all_groups t)) + turns ≡ length t.groups = omega (arith, few) in
      sym (ones_first (length t.groups) 0 [] turns (omega arith) (λ k from to it. (and_parts (is_alone t k) (opens u t [] k) it).1)) ∙ ap (λ k. best_taken u t k []) whole
