-- A schedule without its wasted sends holds the same after each step, and wastes none.
use Rattle.std.proofs.{Common.{◌≡◌, ℕ, zero, suc, ◌+◌, ◌-◌, ◌<◌, Bool, true, false, ◌&&◌, ◌||◌, eqb, refl, sym, ap, ◌∙◌, subst, arith, filter, not}, lemmas.Bool.{and_parts, and_from, eqb-true, both_ways, eq-eqb, not-true}}
use Rattle.std.specs.List.{AllByRecursion, list_any}
use Rattle.schedule.specs.{declared.hop.Hop.Hop, Sends.{ScheduleValue, IsSchedule, IsInRange}, Placed.{PlacementValue, holds, same_pair}, Running.{after, brings, step_of}}
use Rattle.schedule.proofs.{First.{Among, among_each, each_among, each_filter, any_found, any_among, among_kept, each_passes}, Wasting.to_pair, Placing.{pair_is, pair_itself, placed-alike}, Inverting.step_is}
use Rattle.inversion.{specs.Reductions.{is_useful, tightened}, proofs.{Firsts.{each_first, first_among, first_of}, Reaching.{below_of, send_brings, still_held}}}

-- what is held stays held to any later step
pub held_until : (pre : PlacementValue) (s : ScheduleValue) (k n j : ℕ) (pair : ℕ × ℕ) → k + j ≡ n → pair.0 < pre.chunks → pair.1 < pre.nodes → holds (after pre s k) pair ≡ true → holds (after pre s n) pair ≡ true
held_until pre s k n zero pair is c v held = let same : k ≡ n = omega (arith, is) in subst (λ m. holds (after pre s m) pair ≡ true) same held
held_until pre s k n (suc j) pair is c v held = held_until pre s (suc k) n j pair (omega (arith, is)) c v (still_held pre s k pair c v held)

-- what a useful send says
pub record IsUsefulSend (pre : PlacementValue) (s : ScheduleValue) (h : Hop) : Type 0 where
  pub sender : holds (after pre s (h.step - 1)) (h.chunk, h.from) ≡ true
  pub receiver : holds (after pre s (h.step - 1)) (h.chunk, h.to) ≡ false

pub useful_is : (pre : PlacementValue) (s : ScheduleValue) (h : Hop) → is_useful pre s h ≡ true → IsUsefulSend pre s h
useful_is pre s h is =
    let parts = and_parts (holds (after pre s (h.step - 1)) (h.chunk, h.from)) (not (holds (after pre s (h.step - 1)) (h.chunk, h.to))) is in
    record { sender = parts.0; receiver = not-true _ parts.1 }

-- of two useful sends that bring the same, none is earlier
never_earlier : (pre : PlacementValue) (s : ScheduleValue) (a b : Hop) → IsSchedule s → IsInRange pre.chunks pre.nodes s → Among a s.sends → IsUsefulSend pre s a → IsUsefulSend pre s b → to_pair a ≡ to_pair b → a.step < b.step → ⊥
never_earlier pre s a b valid in_range among first second same less =
    let below = below_of pre.chunks pre.nodes s a in_range among in
    let from : 0 < a.step = (step_is s a valid among).from in
    let brought : holds (after pre s (suc (a.step - 1))) (a.chunk, a.to) ≡ true = send_brings pre s (a.step - 1) a in_range among (omega (arith, from)) first.sender in
    let later : holds (after pre s (b.step - 1)) (a.chunk, a.to) ≡ true = held_until pre s (suc (a.step - 1)) (b.step - 1) (b.step - 1 - a.step) (a.chunk, a.to) (omega (arith, from, less)) below.chunk below.to brought in
    both_ways _ second.receiver (subst (λ pair. holds (after pre s (b.step - 1)) pair ≡ true) same later)

or_alike : (a b c : Bool) → (b ≡ true → c ≡ true) → (a ≡ false → c ≡ true → b ≡ true) → (a || b) ≡ (a || c)
or_alike a b c there back = grind arith

-- the sends that are kept are sends of the schedule, and useful
pub kept_among : (pre : PlacementValue) (s : ScheduleValue) (h : Hop) → Among h (tightened pre s).sends → Among h s.sends
kept_among pre s h among =
    among_each (λ x. Among x s.sends) h (filter (is_useful pre s) s.sends) (each_filter (λ x. Among x s.sends) (is_useful pre s) s.sends (each_among (λ x. Among x s.sends) s.sends (λ x there. there))) (first_among h (filter (is_useful pre s) s.sends) among)

pub kept_useful : (pre : PlacementValue) (s : ScheduleValue) → AllByRecursion (λ h. is_useful pre s h ≡ true) (tightened pre s).sends
kept_useful pre s = each_first (λ h. is_useful pre s h ≡ true) (filter (is_useful pre s) s.sends) (each_passes (is_useful pre s) s.sends)

-- where a send brings what was lacking, one of those that are kept does
kept_brings : (pre : PlacementValue) (s : ScheduleValue) (n : ℕ) (pair : ℕ × ℕ) → IsSchedule s → IsInRange pre.chunks pre.nodes s → holds (after pre s n) pair ≡ false → list_any (brings (after pre s n) (n + 1) pair) s.sends ≡ true → list_any (brings (after pre s n) (n + 1) pair) (tightened pre s).sends ≡ true
kept_brings pre s n pair valid in_range lacked some =
    let found = any_found (brings (after pre s n) (n + 1) pair) s.sends some in
    let h : Hop = found.0 in
    let parts = and_parts (eqb h.step (n + 1)) (same_pair (h.chunk, h.to) pair && holds (after pre s n) (h.chunk, h.from)) found.2 in
    let ends = and_parts (same_pair (h.chunk, h.to) pair) (holds (after pre s n) (h.chunk, h.from)) parts.1 in
    let now : h.step ≡ n + 1 = eqb-true h.step (n + 1) parts.0 in
    let before : n ≡ h.step - 1 = omega (arith, now) in
    let aim : to_pair h ≡ pair = pair_is (h.chunk, h.to) pair ends.0 in
    let lacked_here : holds (after pre s n) (h.chunk, h.to) ≡ false = ap (holds (after pre s n)) aim ∙ lacked in
    let sender : holds (after pre s (h.step - 1)) (h.chunk, h.from) ≡ true = subst (λ m. holds (after pre s m) (h.chunk, h.from) ≡ true) before ends.1 in
    let receiver : holds (after pre s (h.step - 1)) (h.chunk, h.to) ≡ false = subst (λ m. holds (after pre s m) (h.chunk, h.to) ≡ false) before lacked_here in
    let useful : is_useful pre s h ≡ true = and_from _ _ sender (ap not receiver) in
    let first = first_of h (filter (is_useful pre s) s.sends) (among_kept (is_useful pre s) h s.sends found.1 useful) in
    let o : Hop = first.0 in
    let o_among : Among o s.sends = kept_among pre s o first.1 in
    let o_useful : IsUsefulSend pre s o = useful_is pre s o (among_each (λ h. is_useful pre s h ≡ true) o (tightened pre s).sends (kept_useful pre s) first.1) in
    let h_useful : IsUsefulSend pre s h = record { sender = sender; receiver = receiver } in
    let steps : o.step ≡ h.step = omega (arith, never_earlier pre s o h valid in_range o_among o_useful h_useful first.2, never_earlier pre s h o valid in_range found.1 h_useful o_useful (sym first.2)) in
    let o_before : o.step - 1 ≡ n = omega (arith, steps, now) in
    let o_sender : holds (after pre s n) (o.chunk, o.from) ≡ true = subst (λ m. holds (after pre s m) (o.chunk, o.from) ≡ true) o_before o_useful.sender in
    let o_target : same_pair (o.chunk, o.to) pair ≡ true = subst (λ p. same_pair (o.chunk, o.to) p ≡ true) (first.2 ∙ aim) (pair_itself (o.chunk, o.to)) in
    any_among (brings (after pre s n) (n + 1) pair) o (tightened pre s).sends first.1 (and_from _ _ (eq-eqb o.step (n + 1) (steps ∙ now)) (and_from _ _ o_target o_sender))

-- after each step the same is held
pub same_after : (pre : PlacementValue) (s : ScheduleValue) (n : ℕ) → IsSchedule s → IsInRange pre.chunks pre.nodes s → after pre (tightened pre s) n ≡ after pre s n
same_after pre s zero valid in_range = refl
same_after pre s (suc n) valid in_range =
    let before : PlacementValue = after pre s n in
    ap (λ b. step_of (tightened pre s).sends b (n + 1)) (same_after pre s n valid in_range)
    ∙ placed-alike before.chunks before.nodes (λ pair. holds before pair || list_any (brings before (n + 1) pair) (tightened pre s).sends) (λ pair. holds before pair || list_any (brings before (n + 1) pair) s.sends) (λ pair c v.
    or_alike (holds before pair) (list_any (brings before (n + 1) pair) (tightened pre s).sends) (list_any (brings before (n + 1) pair) s.sends)
    (λ some. let found = any_found (brings before (n + 1) pair) (tightened pre s).sends some in any_among (brings before (n + 1) pair) found.0 s.sends (kept_among pre s found.0 found.1) found.2)
    (λ lacked some. kept_brings pre s n pair valid in_range lacked some))
