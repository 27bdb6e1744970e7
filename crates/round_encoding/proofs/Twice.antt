-- Counting pairs that meet, from either side.
use Rattle.std.proofs.{lemmas.Grind.common_steps, Common.{◌≡◌, ◌≢◌, ℕ, ◌+◌, ◌<◌, ◌≤◌, Bool, true, false, cond, eqb, List, [], ◌∷◌, map, get_or, refl, sym, ap, ◌∙◌, arith, ◌||◌, ◌&&◌, flat_map, count_by, AllPairs}}
use Rattle.std.{proofs.lemmas.{Bool.{false≢true, false_from_ne_true, Decides.nat_tests}, List.{Folds.list_any_at, Sums.sum_by-cons}}, specs.List.{list_any, range_with_len}}
use Rattle.schedule.{specs.Placed.same_pair, proofs.Placing.pair_is}
use Rattle.send_encoding.proofs.{Everywhere.in_map, Members.none_of, Orders.{apart_once, flat_pairs, map_pairs, range_pairs}}

module _ {X : Type 0} where
  count_cons : (p : X → Bool) (x : X) (xs : List X) → count_by p (x ∷ xs) ≡ cond (p x) 1 0 + count_by p xs
  count_cons p x xs = sum_by-cons (λ y. cond (p y) 1 0) x xs

  count_or : (p q : X → Bool) (xs : List X) → count_by (λ x. p x || q x) xs ≤ count_by p xs + count_by q xs
  count_or p q [] = omega arith
  count_or p q (x ∷ xs) = grind (arith, nat_tests, common_steps, count_cons, count_or p q xs)

  none_any : (p : X → Bool) (xs : List X) → list_any p xs ≡ false → count_by p xs ≡ 0
  none_any p xs h = none_of p xs (λ k d low. false_from_ne_true (p (get_or xs k d)) (λ t. false≢true (sym h ∙ list_any_at p xs k d low t)))

  pub one_any : (p : X → Bool) (xs : List X) → count_by p xs ≤ 1 → count_by p xs ≤ cond (list_any p xs) 1 0
  one_any p xs h = grind (arith, nat_tests, none_any)

pub any_count : {Z H : Type 0} (hit : Z → H → Bool) (zs : List Z) (hops : List H) → ((h : H) → count_by (λ z. hit z h) zs ≤ 1) → count_by (λ z. list_any (hit z) hops) zs ≤ count_by (λ h. list_any (λ z. hit z h) zs) hops
any_count hit zs [] once = omega (arith, none_of (λ z. false) zs (λ k d low. refl))
any_count hit zs (h ∷ hops) once =
    omega (arith, count_or (λ z. hit z h) (λ z. list_any (hit z) hops) zs, one_any (λ z. hit z h) zs (once h), any_count hit zs hops once, count_cons (λ k. list_any (λ z. hit z k) zs) h hops)

-- ---- pairs of a number and a link of a list without doubles

module _ (chunk : ℕ) (link : ℕ × ℕ) (ls : List (ℕ × ℕ)) where
  abbrev meets : ℕ × (ℕ × ℕ) → Bool
  meets z = eqb chunk z.0 && same_pair link z.1

  abbrev Differ : ℕ × (ℕ × ℕ) → ℕ × (ℕ × ℕ) → Type 0
  Differ y z = y ≢ z

  abbrev rows : ℕ → ℕ → List (ℕ × (ℕ × ℕ))
  rows a n = flat_map (λ c. map (λ l. (c, l)) ls) (range_with_len a n)

  rows_differ : (a n : ℕ) → AllPairs (λ a b. a ≢ b) ls → AllPairs Differ (rows a n)
  rows_differ a n apart =
      flat_pairs (λ i j. i < j) Differ (λ c z. z.0 ≡ c) (λ c. map (λ l. (c, l)) ls)
      (λ c. map_pairs (λ k l. k ≢ l) Differ (λ l. (c, l)) (λ k l differ same. differ (ap (λ z. z.1) same)) ls apart)
      (λ c. in_map (λ z. z.0 ≡ c) (λ l. Unit {0}) (λ l. (c, l)) ls (λ l _. refl) (λ i d low. tt))
      (λ c e y z less py pz same. omega (arith, less, py, pz, ap (λ w. w.0) same)) (range_with_len a n) (range_pairs a n)

  -- a pair that meets is this chunk and this link
  pair_met : (z : ℕ × (ℕ × ℕ)) → meets z ≡ true → (chunk, link) ≡ z
  pair_met z t = grind (arith, nat_tests, pair_is)

  pub meets_once : (a n : ℕ) → AllPairs (λ a b. a ≢ b) ls → count_by meets (rows a n) ≤ 1
  meets_once a n apart = apart_once Differ meets (λ y z differ t u. differ (sym (pair_met y t) ∙ pair_met z u)) (rows a n) (rows_differ a n apart)
