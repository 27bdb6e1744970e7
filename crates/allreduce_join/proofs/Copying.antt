-- The run of a join: after the first part the demanded bags are whole, and the second carries whole bags to all that it reaches.
use Rattle.std.proofs.Common.{◌≡◌, ℕ, zero, suc, ◌+◌, ◌-◌, ◌<◌, ◌≤◌, ⊎_elim, Bool, true, false, ◌&&◌, eqb, List, [], length, map, refl, sym, ap, ◌∙◌, subst, arith, filter, fold, not}
use Rattle.std.{proofs.lemmas.{Bool.{and_parts, and_from, eqb-true, eq-eqb, or_cases}, List.Elements.recursion_from_All}, specs.List.{AllByRecursion, list_any}}
use Rattle.schedule.specs.{declared.hop.Hop.Hop, Sends.{ScheduleValue, IsSchedule, IsInRange, IsStep}, Placed.{PlacementValue, holds, same_pair}, Solving.Tight, Running.{after, brings}}
use Rattle.schedule.specs.{Bags.{Bags, added, contributions, is_empty, one_of_each}, Summing.{bags_after, goes_to}, JoinedRuns.{filled_senders, joined_after}}
use Rattle.schedule.proofs.{First.{Among, among_each, among_map, among_right, each_among, map_among, any_found, filter_among, among_kept}, Inverting.steps_of}
use Rattle.bag_runs.proofs.JoinedSteps.{replaced_has, step_adds, step_copies}
use Rattle.inversion.proofs.Reaching.{below_of, holds_next}
use Rattle.allreduce_join.{specs.Joins.one_after, proofs.{Paired.append_among, Parts.sends_first, Later.later}}

-- ---- the steps that add

-- in its first part a join runs as the first schedule
pub first_part : (start : Bags) (p q : ScheduleValue) → IsSchedule q → (n : ℕ) → n ≤ length p.rounds → (pair : ℕ × ℕ) → joined_after start (one_after (length p.rounds) p q) (length p.rounds) n pair ≡ bags_after start p.sends n pair
first_part start p q valid zero small pair = refl
first_part start p q valid (suc n) small pair =
    let all : ScheduleValue = one_after (length p.rounds) p q in
    let before : Bags = joined_after start all (length p.rounds) n in
    let so_far : (other : ℕ × ℕ) → before other ≡ bags_after start p.sends n other = λ other. first_part start p q valid n (omega (arith, small)) other in
    ap (λ (after : Bags). after pair) (step_adds start all (length p.rounds) n (omega (arith, small)))
    ∙ (ap (λ hops. fold added (before pair) (map (λ h. before (h.chunk, h.from)) hops)) (sends_first p q (n + 1) pair valid (omega (arith, small)))
    ∙ (λ i. fold added (so_far pair i) (map (λ h. so_far (h.chunk, h.from) i) (filter (goes_to (n + 1) pair) p.sends))))

-- ---- the steps that copy

ones_filled : (nodes : ℕ) → 0 < nodes → is_empty (one_of_each nodes) ≡ false
ones_filled zero some = absurd (omega arith)
ones_filled (suc n) some = refl

-- what the second part needs to carry whole bags on
pub record Carries (nodes : ℕ) (demand : PlacementValue) (p q : ScheduleValue) : Type 0 where
  pub some : 0 < nodes
  pub first : IsSchedule p
  pub second : IsSchedule q
  pub in_range : IsInRange demand.chunks demand.nodes q
  pub tight : Tight demand q
  pub whole : (pair : ℕ × ℕ) → holds demand pair ≡ true → bags_after (contributions nodes) p.sends (length p.rounds) pair ≡ one_of_each nodes

module _ (nodes : ℕ) (demand : PlacementValue) (p q : ScheduleValue) (carries : Carries nodes demand p q) where
  abbrev bags : ℕ → Bags
  bags n = joined_after (contributions nodes) (one_after (length p.rounds) p q) (length p.rounds) n

  -- what is held after so many steps of the second part is whole
  abbrev IsWhole : ℕ → ℕ → Type 0
  IsWhole n k = (pair : ℕ × ℕ) → pair.0 < demand.chunks → pair.1 < demand.nodes → holds (after demand q k) pair ≡ true → bags n pair ≡ one_of_each nodes

  -- a send of a copying step is one of the second schedule
  its_send : (n k : ℕ) (h : Hop) → n ≡ length p.rounds + k → Among h (one_after (length p.rounds) p q).sends → h.step ≡ n + 1 → (o : Hop) × Among o q.sends × (later (length p.rounds) o ≡ h)
  its_send n k h is among now =
      ⊎_elim
      (λ (left : Among h p.sends).
      let step_is : IsStep (length p.rounds) h.step = among_each (λ h. IsStep (length p.rounds) h.step) h p.sends (steps_of p carries.first) left in
      absurd (omega (arith, step_is.to, now, is)))
      (λ (right : Among h (map (later (length p.rounds)) q.sends)). map_among (later (length p.rounds)) h q.sends right)
      (append_among h p.sends (map (later (length p.rounds)) q.sends) among)

  -- its sender holds the chunk
  sender_whole : (n k : ℕ) (o : Hop) → IsWhole n k → Among o q.sends → o.step ≡ k + 1 → bags n (o.chunk, o.from) ≡ one_of_each nodes
  sender_whole n k o so_far among now =
      let held : holds (after demand q (o.step - 1)) (o.chunk, o.from) ≡ true = among_each (λ h. holds (after demand q (h.step - 1)) (h.chunk, h.from) ≡ true) o q.sends (recursion_from_All (λ h. holds (after demand q (h.step - 1)) (h.chunk, h.from) ≡ true) q.sends carries.tight.sender) among in
      let below = below_of demand.chunks demand.nodes q o carries.in_range among in
      let before : o.step - 1 ≡ k = omega (arith, now) in
      so_far (o.chunk, o.from) below.chunk below.from (subst (λ m. holds (after demand q m) (o.chunk, o.from) ≡ true) before held)

  abbrev senders : ℕ → ℕ × ℕ → List ℕ
  senders n pair = filled_senders (one_after (length p.rounds) p q).sends (bags n) (n + 1) pair

  abbrev is_filled : ℕ → ℕ × ℕ → Hop → Bool
  is_filled n pair h = goes_to (n + 1) pair h && not (is_empty (bags n (h.chunk, h.from)))

  senders_whole : (n k : ℕ) (pair : ℕ × ℕ) → n ≡ length p.rounds + k → IsWhole n k → AllByRecursion (λ u. bags n (pair.0, u) ≡ one_of_each nodes) (senders n pair)
  senders_whole n k pair is so_far =
      each_among (λ u. bags n (pair.0, u) ≡ one_of_each nodes) (senders n pair) (λ u among.
      let sent = map_among (λ (h : Hop). h.from) u (filter (is_filled n pair) (one_after (length p.rounds) p q).sends) among in
      let h : Hop = sent.0 in
      let kept = filter_among (is_filled n pair) h (one_after (length p.rounds) p q).sends sent.1 in
      let parts = and_parts (goes_to (n + 1) pair h) (not (is_empty (bags n (h.chunk, h.from)))) kept.1 in
      let goes = and_parts (eqb h.step (n + 1)) (same_pair (h.chunk, h.to) pair) parts.0 in
      let of_chunk : h.chunk ≡ pair.0 = eqb-true h.chunk pair.0 (and_parts (eqb h.chunk pair.0) (eqb h.to pair.1) goes.1).0 in
      let now : h.step ≡ n + 1 = eqb-true h.step (n + 1) goes.0 in
      let its = its_send n k h is kept.0 now in
      let o : Hop = its.0 in
      let steps : o.step + length p.rounds ≡ h.step = ap (λ (x : Hop). x.step) its.2 in
      let whole : bags n (o.chunk, o.from) ≡ one_of_each nodes = sender_whole n k o so_far its.1 (omega (arith, steps, now, is)) in
      let chunks : o.chunk ≡ pair.0 = ap (λ (x : Hop). x.chunk) its.2 ∙ of_chunk in
      let froms : o.from ≡ u = ap (λ (x : Hop). x.from) its.2 ∙ sent.2 in
      ap (λ c. bags n (c, u)) (sym chunks) ∙ (ap (λ f. bags n (o.chunk, f)) (sym froms) ∙ whole))

  -- where a send brings the pair, there is a sender whose bag is not empty
  some_sender : (n k : ℕ) (pair : ℕ × ℕ) → n ≡ length p.rounds + k → IsWhole n k → list_any (brings (after demand q k) (k + 1) pair) q.sends ≡ true → senders n pair ≡ [] → ⊥
  some_sender n k pair is so_far brought none =
      let found = any_found (brings (after demand q k) (k + 1) pair) q.sends brought in
      let o : Hop = found.0 in
      let parts = and_parts (eqb o.step (k + 1)) (same_pair (o.chunk, o.to) pair && holds (after demand q k) (o.chunk, o.from)) found.2 in
      let ends = and_parts (same_pair (o.chunk, o.to) pair) (holds (after demand q k) (o.chunk, o.from)) parts.1 in
      let now : o.step ≡ k + 1 = eqb-true o.step (k + 1) parts.0 in
      let whole : bags n (o.chunk, o.from) ≡ one_of_each nodes = sender_whole n k o so_far found.1 now in
      let filled : not (is_empty (bags n (o.chunk, o.from))) ≡ true = ap (λ b. not (is_empty b)) whole ∙ ap not (ones_filled nodes carries.some) in
      let goes : goes_to (n + 1) pair (later (length p.rounds) o) ≡ true = and_from _ _ (eq-eqb (o.step + length p.rounds) (n + 1) (omega (arith, now, is))) ends.0 in
      let there : Among (later (length p.rounds) o) (one_after (length p.rounds) p q).sends = among_right (later (length p.rounds) o) p.sends (map (later (length p.rounds)) q.sends) (among_map (later (length p.rounds)) o q.sends found.1) in
      let kept : Among (later (length p.rounds) o) (filter (is_filled n pair) (one_after (length p.rounds) p q).sends) = among_kept (is_filled n pair) (later (length p.rounds) o) (one_after (length p.rounds) p q).sends there (and_from _ _ goes filled) in
      let sender : Among o.from (senders n pair) = among_map (λ (h : Hop). h.from) (later (length p.rounds) o) (filter (is_filled n pair) (one_after (length p.rounds) p q).sends) kept in
      subst (Among o.from) none sender

  pub whole_after : (k n : ℕ) → n ≡ length p.rounds + k → IsWhole n k
  whole_after zero n is pair c v held = grind (arith, first_part)
  whole_after (suc k) zero is pair c v held = absurd (omega (arith, is))
  whole_after (suc k) (suc n) is pair c v held =
      let before : n ≡ length p.rounds + k = omega (arith, is) in
      let so_far : IsWhole n k = whole_after k n before in
      ap (λ (after : Bags). after pair) (step_copies (contributions nodes) (one_after (length p.rounds) p q) (length p.rounds) n (omega (arith, before)))
      ∙ replaced_has (bags n) pair (one_of_each nodes) (senders n pair) (senders_whole n k pair before so_far) (λ none.
      ⊎_elim
      (λ (kept : holds (after demand q k) pair ≡ true). so_far pair c v kept)
      (λ (brought : list_any (brings (after demand q k) (k + 1) pair) q.sends ≡ true). absurd (some_sender n k pair before so_far brought none))
      (or_cases (holds (after demand q k) pair) (list_any (brings (after demand q k) (k + 1) pair) q.sends) (sym (holds_next demand q k pair c v) ∙ held)))
