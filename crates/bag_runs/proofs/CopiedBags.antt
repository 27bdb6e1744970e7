-- Where every step copies, the bags of a placement stay those of what is held.
use Rattle.std.proofs.{Common.{◌≡◌, ℕ, zero, suc, ◌+◌, ◌<◌, Bool, true, false, not, ◌&&◌, ◌||◌, cond, List, [], ◌∷◌, map, refl, sym, ap, ◌∙◌, arith, filter, max}, lemmas.List.Elements.recursion_from_All}
use Rattle.std.specs.List.{AllByRecursion, list_any, range_with_len, reduce}
use Rattle.schedule.specs.{declared.hop.Hop.Hop, Sends.{ScheduleValue, IsInRange, is_hop_below}, Placed.{PlacementValue, holds}, Summing.goes_to, Running.{after, brings}, Bags.{Bag, Bags, empty_bag, is_empty, of_placement, one_of}}
use Rattle.schedule.{specs.JoinedRuns.{copied_step, joined_after, replaced}, proofs.{First.each_weaker, Joining.{IsHopBelow, hop_below}, Placing.{filter_alike, holds-placed}, Stepping.{chunks-after, nodes-after}}}
use Rattle.bag_runs.proofs.JoinedSteps.{greatest_has, step_copies}

-- ---- which bags of a placement are empty

zeros_are_empty : (from len : ℕ) → is_empty (map (λ _. 0) (range_with_len from len)) ≡ true
zeros_are_empty from zero = refl
zeros_are_empty from (suc len) = zeros_are_empty (from + 1) len

one_is_not_empty : (nodes : ℕ) → 0 < nodes → is_empty (one_of nodes 0) ≡ false
one_is_not_empty zero some = absurd (omega arith)
one_is_not_empty (suc nodes) some = refl

-- a bag of a placement is not empty exactly where the chunk is held
filled_where_held : (held : PlacementValue) (pair : ℕ × ℕ) → 0 < held.nodes → not (is_empty (of_placement held pair)) ≡ holds held pair
filled_where_held held pair some = grind (arith, one_is_not_empty, zeros_are_empty)

-- ---- the greatest sender

-- where each sender that passes has the same bag, that bag comes to the pair if one passes, and else the own one stays
module _ (R : Hop → Type 0) (passes : Hop → Bool) (before : Bags) (pair : ℕ × ℕ) (bag : Bag) (same : (h : Hop) → R h → passes h ≡ true → before (pair.0, h.from) ≡ bag) where
  senders_have : (sends : List Hop) → AllByRecursion R sends → AllByRecursion (λ u. before (pair.0, u) ≡ bag) (map (λ (h : Hop). h.from) (filter passes sends))
  senders_have [] each = tt
  senders_have (h ∷ sends) each = grind (arith, senders_have sends each.1)

  abbrev copied : List Hop → Bag
  copied hops = replaced before pair (reduce max (map (λ (x : Hop). x.from) hops))

  copied_from_greatest : (sends : List Hop) → AllByRecursion R sends → copied (filter passes sends) ≡ cond (list_any passes sends) bag (before pair)
  copied_from_greatest [] each = refl
  copied_from_greatest (h ∷ sends) each = grind (arith, greatest_has, senders_have sends each.1, copied_from_greatest sends each.1)

-- ---- one step

kept_or_brought : (kept brought : Bool) (one none : Bag) → cond brought one (cond kept one none) ≡ cond (kept || brought) one none
kept_or_brought kept brought one none = grind arith

-- the bags are those of what is held
abbrev Follows : Bags → PlacementValue → Type 0
Follows bags held = (pair : ℕ × ℕ) → pair.0 < held.chunks → pair.1 < held.nodes → bags pair ≡ of_placement held pair

module _ (held : PlacementValue) (bags : Bags) (step : ℕ) (pair : ℕ × ℕ) (some : 0 < held.nodes) (follows : Follows bags held) where
  abbrev is_filled : Hop → Bool
  is_filled h = goes_to step pair h && not (is_empty (bags (h.chunk, h.from)))

  -- a send has a bag that is not empty exactly where it brings the pair
  filled_where_brought : (h : Hop) → IsHopBelow held.chunks held.nodes h → is_filled h ≡ brings held step pair h
  filled_where_brought h below = grind (arith, filled_where_held)

  -- and then it is one contribution of node 0
  brings_one : (h : Hop) → IsHopBelow held.chunks held.nodes h → brings held step pair h ≡ true → bags (pair.0, h.from) ≡ one_of held.nodes 0
  brings_one h below brought = grind arith

  copied_where_brought : (sends : List Hop) → AllByRecursion (IsHopBelow held.chunks held.nodes) sends → copied_step sends bags step pair ≡ cond (list_any (brings held step pair) sends) (one_of held.nodes 0) (bags pair)
  copied_where_brought sends each =
      ap (λ hops. replaced bags pair (reduce max (map (λ (h : Hop). h.from) hops))) (filter_alike (IsHopBelow held.chunks held.nodes) is_filled (brings held step pair) filled_where_brought sends each)
      ∙ copied_from_greatest (IsHopBelow held.chunks held.nodes) (brings held step pair) bags pair (one_of held.nodes 0) brings_one sends each

-- ---- a run

-- where every step copies, the bags of a placement stay those of what is held: one contribution of node 0 where the chunk is held, and else none
pub bags_of_held : (pre : PlacementValue) (s : ScheduleValue) (n : ℕ) (pair : ℕ × ℕ) → 0 < pre.nodes → IsInRange pre.chunks pre.nodes s → pair.0 < pre.chunks → pair.1 < pre.nodes
    → joined_after (of_placement pre) s 0 n pair ≡ of_placement (after pre s n) pair
bags_of_held pre s zero pair some in_range c v = refl
bags_of_held pre s (suc n) pair some in_range c v =
    let held : PlacementValue = after pre s n in
    let bags : Bags = joined_after (of_placement pre) s 0 n in
    let chunks : held.chunks ≡ pre.chunks = chunks-after pre s n in
    let nodes : held.nodes ≡ pre.nodes = nodes-after pre s n in
    let follows : Follows bags held = λ other oc ov. bags_of_held pre s n other some in_range (omega (arith, oc, chunks)) (omega (arith, ov, nodes)) in
    let low : pair.0 < held.chunks = omega (arith, c, chunks) in
    let left : pair.1 < held.nodes = omega (arith, v, nodes) in
    let brought : Bool = list_any (brings held (n + 1) pair) s.sends in
    let each : AllByRecursion (IsHopBelow held.chunks held.nodes) s.sends =
    each_weaker (λ h. is_hop_below pre.chunks pre.nodes h ≡ true) (IsHopBelow held.chunks held.nodes) (λ h is.
    let below = hop_below pre.chunks pre.nodes h is in
    record { chunk = omega (arith, below.chunk, chunks); from = omega (arith, below.from, nodes); to = omega (arith, below.to, nodes) })
    s.sends (recursion_from_All (λ h. is_hop_below pre.chunks pre.nodes h ≡ true) s.sends in_range) in
    ap (λ (after : Bags). after pair) (step_copies (of_placement pre) s 0 n (omega arith))
    ∙ (copied_where_brought held bags (n + 1) pair (omega (arith, some, nodes)) follows s.sends each
    ∙ (ap (λ bag. cond brought (one_of held.nodes 0) bag) (follows pair low left)
    ∙ (kept_or_brought (holds held pair) brought (one_of held.nodes 0) (empty_bag held.nodes)
    ∙ ap (λ b. cond b (one_of held.nodes 0) (empty_bag held.nodes)) (sym (holds-placed held.chunks held.nodes (λ p. holds held p || list_any (brings held (n + 1) p) s.sends) pair low left)))))

-- so a bag is not empty exactly where the chunk is held
pub filled_after : (pre : PlacementValue) (s : ScheduleValue) (n : ℕ) (pair : ℕ × ℕ) → 0 < pre.nodes → IsInRange pre.chunks pre.nodes s → pair.0 < pre.chunks → pair.1 < pre.nodes
    → not (is_empty (joined_after (of_placement pre) s 0 n pair)) ≡ holds (after pre s n) pair
filled_after pre s n pair some in_range c v = grind (arith, nodes-after, bags_of_held, filled_where_held)
