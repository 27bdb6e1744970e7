-- The nodes that are enabled, by their ranks.
use Rattle.std.proofs.Common.{◌≡◌, ℕ, zero, suc, ◌+◌, ◌<◌, ◌≤◌, Bool, true, false, cond, List, [], ◌∷◌, ◌++◌, length, Some, None, sym, ap, ◌∙◌, arith, filter, slice_get}
use Rattle.std.{specs.List.range_with_len, proofs.lemmas.{List.{length-append, map-id, FromFn.filter_of_map_range_with_len_more}, Option.slice_get_past}}

module _ (p : ℕ → Bool) where
  -- those among the first so many numbers
  abbrev pub passing : ℕ → List ℕ
  passing n = filter p (range_with_len 0 n)

  passing_more : (n : ℕ) → passing (n + 1) ≡ passing n ++ cond (p n) (n ∷ []) []
  passing_more n =
      ap (filter p) (sym (map-id (range_with_len 0 (n + 1)))) ∙ filter_of_map_range_with_len_more p (λ k. k) 0 n n (omega arith) ∙ ap (λ r. filter p r ++ cond (p n) (n ∷ []) []) (map-id (range_with_len 0 n))

  -- one more number, which passes or not
  pub count_passes : (n count : ℕ) → count ≡ length (passing n) → p n ≡ true → count + 1 ≡ length (passing (n + 1))
  count_passes n count is passes =
      let more : length (passing (n + 1)) ≡ length (passing n ++ n ∷ []) = ap length (passing_more n ∙ ap (λ b. passing n ++ cond b (n ∷ []) []) passes) in
      omega (arith, is, more, length-append (passing n) (n ∷ []))

  pub count_fails : (n count : ℕ) → count ≡ length (passing n) → p n ≡ false → count ≡ length (passing (n + 1))
  count_fails n count is fails =
      let more : length (passing (n + 1)) ≡ length (passing n ++ []) = ap length (passing_more n ∙ ap (λ b. passing n ++ cond b (n ∷ []) []) fails) in
      omega (arith, is, more, length-append (passing n) [])

  -- a number that passes stands behind those that pass below it
  place_of : (k n from : ℕ) → k < n → p (from + k) ≡ true → slice_get (filter p (range_with_len from n)) (length (filter p (range_with_len from k))) ≡ Some (from + k)
  place_of k zero from low passes = absurd (omega arith)
  place_of zero (suc n) from low passes =
      let same : from + 0 ≡ from = omega arith in
      let here : p from ≡ true = ap p (sym same) ∙ passes in
      ap (λ b. slice_get (cond b (from ∷ filter p (range_with_len (from + 1) n)) (filter p (range_with_len (from + 1) n))) 0) here ∙ ap (λ x. Some x) (sym same)
  place_of (suc k) (suc n) from low passes =
      let next : from + 1 + k ≡ from + suc k = omega arith in
      go (p from) (place_of k n (from + 1) (omega arith) (ap p next ∙ passes) ∙ ap (λ x. Some x) next)
    where
      go : (b : Bool) → slice_get (filter p (range_with_len (from + 1) n)) (length (filter p (range_with_len (from + 1) k))) ≡ Some (from + suc k)
          → slice_get (cond b (from ∷ filter p (range_with_len (from + 1) n)) (filter p (range_with_len (from + 1) n))) (length (cond b (from ∷ filter p (range_with_len (from + 1) k)) (filter p (range_with_len (from + 1) k)))) ≡ Some (from + suc k)
      go true later = later
      go false later = later

  pub found_at : (node n rank : ℕ) → node < n → p node ≡ true → rank ≡ length (passing node) → Some node ≡ slice_get (passing n) rank
  found_at node n rank low passes is =
      let same : 0 + node ≡ node = omega arith in
      sym (ap (slice_get (passing n)) is ∙ place_of node n 0 low (ap p same ∙ passes) ∙ ap (λ x. Some x) same)

  pub found_none : (n rank : ℕ) → length (passing n) ≤ rank → None ≡ slice_get (passing n) rank
  found_none n rank past = sym (slice_get_past (passing n) rank past)
