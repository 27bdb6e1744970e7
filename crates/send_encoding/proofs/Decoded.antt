-- The sends of an assignment tell its table.
use Rattle.std.proofs.{Common.{◌≡◌, ℕ, ◌+◌, ◌<◌, ◌≤◌, Bool, true, false, List, [], ◌∷◌, eqb, refl, ap, ◌∙◌, arith, ◌&&◌, ◌||◌, if◌then◌else◌, flat_map, All}, lemmas.{Bool.{and_from, or_left, eq-eqb}, List.Elements.{All-nil, All-cons}}}
use Rattle.std.{proofs.lemmas.List.Folds.list_any-append, specs.List.{enumerate_from, list_any, range_with_len}}
use Rattle.list_laws.proofs.Ranges.{any_at}
use Rattle.schedule.{specs.{declared.hop.Hop.Hop, Placed.same_pair, Sends.{IsStep, link_of}}, proofs.{Placing.pair_itself, First.any_among}}
use Rattle.cnf_formula.specs.Literals.{is_true}
use Rattle.send_encoding.specs.{Variables.{SendMapValue, steps_of, sent}, Sent.{hop_over, sends_of}, Moving.{IsLinkOf, JoinsNodes}, Telling.{IsTold, Tells}}
use Rattle.send_encoding.proofs.{Everywhere.{From, in_range, in_flat}, Clauses.{numbered_are, link_listed}}

flat_any : {X A : Type 0} (p : A → Bool) (g : X → List A) (xs : List X) → list_any p (flat_map g xs) ≡ list_any (λ x. list_any p (g x)) xs
flat_any p g [] = refl
flat_any p g (x ∷ xs) = list_any-append p (g x) (flat_map g xs) ∙ ap (λ b. list_any p (g x) || b) (flat_any p g xs)

pub any_range : {A : Type 0} (p : A → Bool) (g : ℕ → List A) (a n k : ℕ) → a ≤ k → k < a + n → list_any p (g k) ≡ true → list_any p (flat_map g (range_with_len a n)) ≡ true
any_range p g a n k low high h = flat_any p g (range_with_len a n) ∙ any_at (λ j. list_any p (g j)) a n k low high h

module _ (m : SendMapValue) (values : List Bool) (links : All (JoinsNodes m) m.links) where
  abbrev x : ℕ → ℕ → ℕ → Bool
  x c e k = is_true values (sent m c e k)

  abbrev hop : ℕ → ℕ → ℕ × (ℕ × ℕ) → Hop
  hop k c z = record { chunk = c; from = z.1.0; to = z.1.1; step = k }

  one_told : (k c : ℕ) (z : ℕ × (ℕ × ℕ)) → IsStep m.steps k → c < m.chunks → IsLinkOf m z → All (IsTold m x) (hop_over m values k c z)
  one_told k c z step low at = grind (arith, All-cons, All-nil)

  pub sends_tell : Tells m x (sends_of m values)
  sends_tell = record {
    told = in_flat (IsTold m x) (From 1 m.steps) (λ k. flat_map (λ c. flat_map (hop_over m values k c) (enumerate_from 0 m.links)) (range_with_len 0 m.chunks)) (steps_of m)
        (λ k st. in_flat (IsTold m x) (From 0 m.chunks) (λ c. flat_map (hop_over m values k c) (enumerate_from 0 m.links)) (range_with_len 0 m.chunks)
        (λ c low. in_flat (IsTold m x) (IsLinkOf m) (hop_over m values k c) (enumerate_from 0 m.links)
        (λ z at. one_told k c z (record { from = omega (arith, st.0); to = omega (arith, st.1) }) (omega (arith, low.1)) at) (numbered_are m links)) (in_range 0 m.chunks)) (in_range 1 m.steps);
    tells = λ c k z low at step h.
        let p : Hop → Bool = λ h. eqb h.step k && (eqb h.chunk c && same_pair (link_of h) z.1) in
        let passes : p (hop k c z) ≡ true = and_from (eqb k k) (eqb c c && same_pair z.1 z.1) (eq-eqb k k refl) (and_from (eqb c c) (same_pair z.1 z.1) (eq-eqb c c refl) (pair_itself z.1)) in
        let there : list_any p (hop_over m values k c z) ≡ true = ap (λ b. list_any p (if b then hop k c z ∷ [] else [])) h ∙ or_left (p (hop k c z)) false passes in
        any_range p (λ k. flat_map (λ c. flat_map (hop_over m values k c) (enumerate_from 0 m.links)) (range_with_len 0 m.chunks)) 1 m.steps k step.from (omega (arith, step.to))
        (any_range p (λ c. flat_map (hop_over m values k c) (enumerate_from 0 m.links)) 0 m.chunks c (omega arith) (omega (arith, low))
        (flat_any p (hop_over m values k c) (enumerate_from 0 m.links) ∙ any_among (λ y. list_any p (hop_over m values k c y)) z (enumerate_from 0 m.links) (link_listed m z at) there));
  }
