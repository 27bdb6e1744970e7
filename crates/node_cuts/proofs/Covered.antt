-- The groups of each cover have every usable link into the set, so that they carry all that comes in.
use Rattle.std.proofs.Common.{◌≡◌, ℕ, zero, suc, ◌+◌, ◌*◌, ◌<◌, ◌≤◌, Bool, true, false, ◌||◌, ◌&&◌, cond, List, [], ◌∷◌, ◌++◌, length, reverse, refl, sym, ap, ◌∙◌, ⊎_elim, inl, inr, arith, ◌==◌, count_by, nat_lt, not, Option, None, Some}
use Rattle.std.proofs.{Math.Nat.add-mul, lemmas.{List.{get_or_default, get_or_past}, Bool.Decides.nat_tests}}
use Rattle.std.proofs.lemmas.{Bool.{both_ways, cases_Bool, cases_lt, cond_both, false≢true, or_left, or_right, or_cases, and_parts, and_from, not_from_false, eq-eqb}, List.Folds.{Any-from_list_any, list_any-append}}
use Rattle.std.{proofs.lemmas.List.{Sorted.{IsPermutation-reverse, list_any-IsPermutation}, Sums.sum_by-cons}, specs.{List.list_any, Option.option_map_or}}
use Rattle.schedule.{specs.{declared.hop.Hop.Hop, Links.{TopologyValue, has_link, is_usable}, Sends.{ScheduleValue, link_of}, Judging.group_at, Fitting.{load, rounds_at}}, proofs.{First.{any_found, any_among}, Ordered.among_from_any}}
use Rattle.list_laws.proofs.Ranges.{any_at}
use Rattle.node_cuts.specs.{declared.sets.Sets.{Sets, TheVariants.{Nothing, Listed, All}}, Sides.NodeSet}
use Rattle.node_cuts.specs.Cuts.{enters, is_among, opens, taken_along, best_of, best_taken, all_groups, ascending, cover, cover_back, cover_greedily, cover_by, narrower, width_of}
use Rattle.node_cuts.proofs.{Choosing.{any_filter, chosen, is_new}, Counting.{no_more_than_both, none_counted}}

-- a group that has a link is one of the topology's
pub in_range : (t : TopologyValue) (g : ℕ) (link : ℕ × ℕ) → has_link (group_at t g) link ≡ true → g < length t.groups
in_range t g link stands =
    elim (cases_lt g (length t.groups)) [
      | inl inside ↦ inside
      | inr past ↦ absurd (false≢true (sym (ap (λ group. has_link group link) (get_or_past t.groups g (record { links = []; width = 0 }) past)) ∙ stands))
    ]

module _ (u : NodeSet) (t : TopologyValue) where
  module _ (link : ℕ × ℕ) (into : enters u link ≡ true) where
    abbrev pub has : ℕ → Bool
    has g = has_link (group_at t g) link

    -- a group that has the link opens the set, where the link stands in no group taken before
    opens_here : (taken : List ℕ) (n : ℕ) → has n ≡ true → is_among t taken link ≡ false → opens u t taken n ≡ true
    opens_here taken n stands not_yet =
        any_among (is_new u t taken) link (group_at t n).links (among_from_any link (group_at t n).links stands)
        (and_from (enters u link) (not (is_among t taken link)) into (not_from_false (is_among t taken link) not_yet))

    stays_along : (taken gs : List ℕ) → is_among t taken link ≡ true → is_among t (taken_along u t taken gs) link ≡ true
    stays_along taken [] already = already
    stays_along taken (g ∷ gs) already =
        let more : List ℕ = cond (opens u t taken g) (g ∷ []) [] in
        stays_along (taken ++ more) gs (list_any-append has taken more ∙ or_left (list_any has taken) (list_any has more) already)

    -- if the link stands in one of these groups, it stands in one that is taken of them in turn
    covers_along : (taken gs : List ℕ) → list_any has gs ≡ true → is_among t (taken_along u t taken gs) link ≡ true
    covers_along taken [] some = absurd (false≢true some)
    covers_along taken (g ∷ gs) some =
        let more : List ℕ = cond (opens u t taken g) (g ∷ []) [] in
        elim (or_cases (has g) (list_any has gs) some) [
          | inl here ↦ elim (cases_Bool (is_among t taken link)) [
            | inl already ↦ stays_along taken (g ∷ gs) already
            | inr not_yet ↦ stays_along (taken ++ more) gs (list_any-append has taken more ∙ or_right (list_any has taken) (list_any has more) (ap (λ b. list_any has (cond b (g ∷ []) [])) (opens_here taken g here not_yet) ∙ or_left (has g) false here))
          ]
          | inr later ↦ covers_along (taken ++ more) gs later
        ]

    stays_ascending : (taken : List ℕ) → is_among t taken link ≡ true → is_among t (ascending t taken) link ≡ true
    stays_ascending taken already =
        let among : ℕ → Bool = λ g. list_any (λ other. other == g) taken in
        let found = any_found has taken already in
        any_filter among has (all_groups t)
        ∙ any_at (λ g. among g && has g) 0 (length t.groups) found.0 (omega arith) (omega (arith, in_range t found.0 link found.2))
        (and_from (among found.0) (has found.0) (any_among (λ other. other == found.0) found.0 taken found.1 (eq-eqb found.0 found.0 refl)) found.2)

    by_best : (turns : ℕ) (taken : List ℕ) (k : ℕ) → has k ≡ true → ((g : ℕ) → is_among t (best_taken u t turns (taken ++ g ∷ [])) link ≡ true)
        → (best : Option ℕ) → best_of u t taken None (all_groups t) ≡ best → is_among t (option_map_or (λ g. best_taken u t turns (taken ++ g ∷ [])) best (ascending t taken)) link ≡ true
    by_best turns taken k stands more (Some g) is = more g
    by_best turns taken k stands more None is =
        ⊎_elim
        (λ (already : is_among t taken link ≡ true). stays_ascending taken already)
        (λ (not_yet : is_among t taken link ≡ false). absurd (both_ways (opens u t taken k) (chosen u t taken None is k (in_range t k link stands)) (opens_here taken k stands not_yet)))
        (cases_Bool (is_among t taken link))

    -- until no group opens the set, each link into it that stands in a group stands in one that is taken
    covers_best : (turns : ℕ) (taken : List ℕ) (k : ℕ) → has k ≡ true → is_among t (best_taken u t turns taken) link ≡ true
    covers_best zero taken k stands = any_at has 0 (length t.groups) k (omega arith) (omega (arith, in_range t k link stands)) stands
    covers_best (suc turns) taken k stands =
        by_best turns taken k stands (λ g. covers_best turns (taken ++ g ∷ []) k stands) (best_of u t taken None (all_groups t)) refl

  abbrev pub Covers : List ℕ → Type 0
  Covers groups = (link : ℕ × ℕ) → enters u link ≡ true → is_usable t link ≡ true → is_among t groups link ≡ true

  stands_at : (link : ℕ × ℕ) → is_usable t link ≡ true → (k : ℕ) × (k < length t.groups) × (has_link (group_at t k) link ≡ true)
  stands_at link usable =
      let at = Any-from_list_any (λ group. has_link group link) t.groups usable in
      (at.0, at.2, ap (λ group. has_link group link) (get_or_default t.groups at.0 (record { links = []; width = 0 }) at.1 at.2 ∙ at.3) ∙ at.4)

  stands_in_all : (link : ℕ × ℕ) → is_usable t link ≡ true → list_any (λ g. has_link (group_at t g) link) (all_groups t) ≡ true
  stands_in_all link usable = let at = stands_at link usable in any_at (λ g. has_link (group_at t g) link) 0 (length t.groups) at.0 (omega arith) (omega (arith, at.1)) at.2

  narrower_covers : (first second : List ℕ) → Covers first → Covers second → Covers (narrower t first second)
  narrower_covers first second one other = cond_both (nat_lt (width_of t second) (width_of t first)) second first Covers (λ less. other) (λ no_less. one)

  cover_covers : Covers (cover u t)
  cover_covers link into usable = covers_along link into [] (all_groups t) (stands_in_all link usable)

  back_covers : Covers (cover_back u t)
  back_covers link into usable =
      let in_some : ℕ → Bool = λ g. has_link (group_at t g) link in
      let taken : List ℕ = taken_along u t [] (reverse (all_groups t)) in
      sym (list_any-IsPermutation in_some taken (reverse taken) (IsPermutation-reverse taken))
      ∙ covers_along link into [] (reverse (all_groups t)) (sym (list_any-IsPermutation in_some (all_groups t) (reverse (all_groups t)) (IsPermutation-reverse (all_groups t))) ∙ stands_in_all link usable)

  -- each usable link into the set stands in a group of the cover
  pub covered : (sets : Sets) → Covers (cover_by sets u t)
  covered Nothing = cover_covers
  covered Listed = cover_covers
  covered All =
      narrower_covers (narrower t (cover u t) (cover_back u t)) (cover_greedily u t)
      (narrower_covers (cover u t) (cover_back u t) cover_covers back_covers)
      (λ link into usable. let at = stands_at link usable in covers_best link into (length t.groups) [] at.0 at.2)

-- the sends of a step over links that stand in one of these groups are no more than the groups carry in it
pub carried : (t : TopologyValue) (s : ScheduleValue) (step : ℕ) (p : Hop → Bool) → ((h : Hop) → p h ≡ true → h.step ≡ step) → ((g : ℕ) → load (group_at t g) step s.sends ≤ (group_at t g).width * rounds_at s step)
    → (groups : List ℕ) → count_by (λ h. p h && is_among t groups (link_of h)) s.sends ≤ width_of t groups * rounds_at s step
carried t s step p now within [] =
    omega (arith, none_counted (λ (h : Hop). p h && false) (λ h both. false≢true (and_parts (p h) false both).1) s.sends)
carried t s step p now within (g ∷ gs) =
    let has : Hop → Bool = λ h. has_link (group_at t g) (link_of h) in
    let later : Hop → Bool = λ h. is_among t gs (link_of h) in
    let here : Hop → Bool = λ h. h.step == step && has h in
    let rest : Hop → Bool = λ h. p h && later h in
    let one_of : (h : Hop) → (p h && (has h || later h)) ≡ true → (here h || rest h) ≡ true = λ h both. grind (arith, nat_tests, both, now h) in
    let product : width_of t (g ∷ gs) * rounds_at s step ≡ (group_at t g).width * rounds_at s step + width_of t gs * rounds_at s step =
    ap (λ w. w * rounds_at s step) (sum_by-cons (λ group. (group_at t group).width) g gs) ∙ add-mul (group_at t g).width (width_of t gs) (rounds_at s step) in
    omega (arith, no_more_than_both (λ (h : Hop). p h && is_among t (g ∷ gs) (link_of h)) here rest one_of s.sends, within g, carried t s step p now within gs, product)
