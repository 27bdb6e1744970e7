-- The best of some groups, and those that are left for later turns.
use Rattle.std.proofs.Common.{◌≡◌, ℕ, zero, suc, ◌+◌, ◌<◌, Bool, true, false, ◌&&◌, ◌||◌, cond, List, [], ◌∷◌, ◌++◌, refl, sym, ap, ◌∙◌, subst, arith, Option, None, Some, below_more, count_by, filter, length, nat_lt, not}
use Rattle.std.proofs.lemmas.{List.{Folds.list_any-append, Sums.sum_by-cons}, Bool.{both_ways, cond-false, cond_both, false≢true, false_from_ne_true, and_parts, and_from, le-ltb, lt-ltb, ltb-true, not-true, not_from_false, or_parts}}
use Rattle.std.specs.{List.{list_any, range_with_len}, Option.{is_some, option_map}}
use Rattle.list_laws.proofs.Tests.{same_test}
use Rattle.schedule.{specs.{Links.{TopologyValue, has_link}, Judging.group_at}, proofs.First.{any_among, any_found}}
use Rattle.node_cuts.{specs.{declared.floor.Floor.Floor, Sides.NodeSet, Cuts.{all_groups, best_of, better, enters, is_among, opened, opens, opens_more}}, proofs.Best.{above_all, not_both, not_itself}}

-- something passes exactly where some are counted
pub any_counts : {X : Type 0} (p : X → Bool) (xs : List X) → list_any p xs ≡ nat_lt 0 (count_by p xs)
any_counts p [] = sym (le-ltb 0 0 (omega arith))
any_counts p (x ∷ xs) =
    let none : count_by p xs ≡ 0 + count_by p xs = omega arith in
    (elim (p x) as (λ b. (b || list_any p xs) ≡ nat_lt 0 (cond b 1 0 + count_by p xs))
    [ true ↦ sym (lt-ltb 0 (1 + count_by p xs) (omega arith)) | false ↦ any_counts p xs ∙ ap (nat_lt 0) none ])
    ∙ ap (nat_lt 0) (sym (sum_by-cons (λ y. cond (p y) 1 0) x xs))

pub none_mapped : {X Y : Type 0} (f : X → Y) (o : Option X) → None ≡ option_map f o → o ≡ None
none_mapped f None is = refl
none_mapped f (Some x) is = absurd (false≢true (ap is_some is))

-- what passes one test among what passes another
pub filter_both : {X : Type 0} (p q : X → Bool) (xs : List X) → filter q (filter p xs) ≡ filter (λ x. p x && q x) xs
filter_both p q [] = refl
filter_both p q (x ∷ xs) = grind (arith, filter_both p q xs)

pub any_filter : {X : Type 0} (p q : X → Bool) (xs : List X) → list_any q (filter p xs) ≡ list_any (λ x. p x && q x) xs
any_filter p q [] = refl
any_filter p q (x ∷ xs) = grind (arith, any_filter p q xs)

module _ (u : NodeSet) (t : TopologyValue) where
  -- the link leads into the set and stands in none of these groups
  abbrev pub is_new : List ℕ → ℕ × ℕ → Bool
  is_new taken link = enters u link && not (is_among t taken link)

  pub opens_counts : (taken : List ℕ) (g : ℕ) → opens u t taken g ≡ nat_lt 0 (opened u t taken g)
  opens_counts taken g = any_counts (is_new taken) (group_at t g).links

  -- a group that opens more than another opens something
  pub more_some : (taken : List ℕ) (x y : ℕ) → opens_more u t taken x y ≡ true → opens u t taken x ≡ true
  more_some taken x y more = grind (arith, ltb-true, opens_counts taken x, lt-ltb 0)

  -- so one that opens nothing is not better
  no_better : (taken : List ℕ) (best : Option ℕ) (g : ℕ) → opens u t taken g ≡ false → better u t taken best g ≡ best
  no_better taken None g none = cond-false (opens u t taken g) (Some g) None none
  no_better taken (Some best) g none = grind (arith, cond-false, false_from_ne_true, both_ways, more_some taken g best)

  -- and the best is among those that open something
  pub best_left : (taken : List ℕ) (best : Option ℕ) (gs : List ℕ) → best_of u t taken best (filter (opens u t taken) gs) ≡ best_of u t taken best gs
  best_left taken best [] = refl
  best_left taken best (g ∷ gs) =
      cond_both (opens u t taken g) (g ∷ filter (opens u t taken) gs) (filter (opens u t taken) gs) (λ left. best_of u t taken best left ≡ best_of u t taken (better u t taken best g) gs)
      (λ kept. best_left taken (better u t taken best g) gs) (λ none. best_left taken best gs ∙ ap (λ b. best_of u t taken b gs) (sym (no_better taken best g none)))

  -- what opens something after one more is taken opened something before
  opened_before : (taken : List ℕ) (one g : ℕ) → opens u t (taken ++ one ∷ []) g ≡ true → opens u t taken g ≡ true
  opened_before taken one g later =
      let found = any_found (is_new (taken ++ one ∷ [])) (group_at t g).links later in
      let parts = and_parts (enters u found.0) (not (is_among t (taken ++ one ∷ []) found.0)) found.2 in
      let has : ℕ → Bool = λ group. has_link (group_at t group) found.0 in
      let none = or_parts (list_any has taken) (list_any has (one ∷ [])) (sym (list_any-append has taken (one ∷ [])) ∙ not-true (is_among t (taken ++ one ∷ []) found.0) parts.1) in
      any_among (is_new taken) found.0 (group_at t g).links found.1 (and_from (enters u found.0) (not (is_among t taken found.0)) parts.0 (not_from_false (is_among t taken found.0) none.0))

  pub left_after : (taken : List ℕ) (one : ℕ) (gs : List ℕ) → filter (opens u t (taken ++ one ∷ [])) (filter (opens u t taken) gs) ≡ filter (opens u t (taken ++ one ∷ [])) gs
  left_after taken one gs = grind (arith, filter_both, same_test, and_parts, and_from, opened_before taken one)

  -- ---- the best of all groups is the first of those that open the most for their width

  -- a group as a fraction
  abbrev score : List ℕ → ℕ → Floor
  score taken g = record { above = opened u t taken g; below = (group_at t g).width; nodes = g }

  opened_some : (taken : List ℕ) (g : ℕ) → opens u t taken g ≡ true → 0 < opened u t taken g
  opened_some taken g opening = ltb-true 0 (opened u t taken g) (sym (opens_counts taken g) ∙ opening)

  -- of so many groups it is the first that opens the most
  pub record IsMost (taken : List ℕ) (n g : ℕ) : Type 0 where
    pub inside : g < n
    pub opening : opens u t taken g ≡ true
    pub earlier : (k : ℕ) → k < g → opens u t taken k ≡ true → opens_more u t taken g k ≡ true
    pub most : (k : ℕ) → k < n → opens u t taken k ≡ true → opens_more u t taken k g ≡ false

  abbrev pub IsChoice : List ℕ → ℕ → Option ℕ → Type 0
  IsChoice taken n None = (k : ℕ) → k < n → opens u t taken k ≡ false
  IsChoice taken n (Some g) = IsMost taken n g

  choice_more : (taken : List ℕ) (n : ℕ) (best : Option ℕ) → IsChoice taken n best → IsChoice taken (n + 1) (better u t taken best n)
  choice_more taken n None is =
      cond_both (opens u t taken n) (Some n) None (IsChoice taken (n + 1))
      (λ yes. record {
        inside = omega arith;
        opening = yes;
        earlier = λ k below opening. absurd (both_ways (opens u t taken k) (is k below) opening);
        most = below_more (λ k. opens u t taken k ≡ true → opens_more u t taken k n ≡ false) n (λ k below opening. absurd (both_ways (opens u t taken k) (is k below) opening)) (λ opening. not_itself (score taken n));
      })
      (λ no. below_more (λ k. opens u t taken k ≡ false) n is no)
  choice_more taken n (Some g) is =
      let under : ℕ → ℕ → Type 0 = λ best k. opens u t taken k ≡ true → opens_more u t taken k best ≡ false in
      cond_both (opens_more u t taken n g) (Some n) (Some g) (IsChoice taken (n + 1))
      (λ more.
      let over : (k : ℕ) → k < n → opens u t taken k ≡ true → opens_more u t taken n k ≡ true = λ k below opening.
      above_all (score taken n) (score taken g) (score taken k) (opened_some taken n (more_some taken n g more)) (opened_some taken g is.opening) (opened_some taken k opening) more (is.most k below opening) in
      record {
        inside = omega arith;
        opening = more_some taken n g more;
        earlier = over;
        most = below_more (under n) n (λ k below opening. not_both (score taken n) (score taken k) (over k below opening)) (λ opening. not_itself (score taken n));
      })
      (λ no. record { inside = omega (arith, is.inside); opening = is.opening; earlier = is.earlier; most = below_more (under g) n is.most (λ opening. no) })

  choices : (taken : List ℕ) (a n j : ℕ) (best : Option ℕ) → a + n ≡ j → IsChoice taken a best → IsChoice taken j (best_of u t taken best (range_with_len a n))
  choices taken a zero j best at is = let same : a ≡ j = omega (arith, at) in subst (λ k. IsChoice taken k best) same is
  choices taken a (suc n) j best at is = choices taken (a + 1) n j (better u t taken best a) (omega (arith, at)) (choice_more taken a best is)

  pub chosen : (taken : List ℕ) (best : Option ℕ) → best_of u t taken None (all_groups t) ≡ best → IsChoice taken (length t.groups) best
  chosen taken best is = subst (IsChoice taken (length t.groups)) is (choices taken 0 (length t.groups) (length t.groups) None (omega arith) (λ k below. absurd (omega (arith, below))))
