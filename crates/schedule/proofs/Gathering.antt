-- The inverse of a schedule that wastes no send adds everything up at the one holder.
use Rattle.std.proofs.Common.{◌≡◌, ℕ, zero, suc, ◌+◌, ◌-◌, ◌<◌, Bool, true, false, ◌&&◌, ◌||◌, cond, eqb, List, [], ◌∷◌, length, inl, inr, refl, sym, ap, ◌∙◌, arith, sum_by}
use Rattle.std.proofs.lemmas.{Bool.{and_parts, cases_Bool, eqb-true, eq-eqb, false≢true, ne_eqb, Decides.nat_tests}, List.{Elements.recursion_from_All, FromFn.get_or-map-range_with_len}}
use Rattle.std.specs.List.{AllByRecursion, AllPairs, list_any, range_with_len}
use Rattle.list_laws.proofs.{Pairs.{pairs_head, pairs_tail}, Tests.if_so}
use Rattle.schedule.specs.{declared.hop.Hop.Hop, Sends.{ScheduleValue, IsSchedule, IsInRange, is_hop_below}, Placed.{PlacementValue, holds, same_pair}, Running.{after, brings}, Solving.Tight}
use Rattle.schedule.proofs.{First.each_weaker, Placing.holds-placed, Stepping.{chunks-after, nodes-after}, Returning.{own, returned, returned_more, sends_now}}
use Rattle.schedule.proofs.Spreading.{IsUseful, Once, back_sum, on_sum, one_step, only_at, reached, spread, sum_alike, sum_at}

-- ---- what is held after one more step

brings_one : (a b c d : Bool) → (a ≡ true → d ≡ true) → (a && ((b && c) && d)) ≡ ((a && b) && c)
brings_one a b c d sender = grind arith

-- each sender of the step holds its chunk
abbrev Senders : PlacementValue → ℕ → List Hop → Type 0
Senders before step hops = AllByRecursion (λ h. eqb h.step step ≡ true → holds before (h.chunk, h.from) ≡ true) hops

all_brought : (before : PlacementValue) (step chunk v : ℕ) (hops : List Hop) → Senders before step hops → list_any (brings before step (chunk, v)) hops ≡ reached (sends_now step chunk) v hops
all_brought before step chunk v [] each = refl
all_brought before step chunk v (h ∷ hops) each = grind (arith, brings_one, sends_now, all_brought before step chunk v hops each.1)

holds_more : (pre : PlacementValue) (s : ScheduleValue) (k chunk v : ℕ) → Senders (after pre s k) (k + 1) s.sends → chunk < pre.chunks → v < pre.nodes → holds (after pre s (suc k)) (chunk, v) ≡ (holds (after pre s k) (chunk, v) || reached (sends_now (k + 1) chunk) v s.sends)
holds_more pre s k chunk v senders c n = grind (arith, holds-placed, chunks-after, nodes-after, all_brought)

-- ---- the sends of a step, where none is wasted

abbrev HoldsAt : PlacementValue → ScheduleValue → Hop → Type 0
HoldsAt pre s h = holds (after pre s (h.step - 1)) (h.chunk, h.from) ≡ true

abbrev LacksAt : PlacementValue → ScheduleValue → Hop → Type 0
LacksAt pre s h = holds (after pre s (h.step - 1)) (h.chunk, h.to) ≡ false

senders_of : (pre : PlacementValue) (s : ScheduleValue) (k : ℕ) (hops : List Hop) → AllByRecursion (HoldsAt pre s) hops → Senders (after pre s k) (k + 1) hops
senders_of pre s k hops each = grind (arith, each_weaker)

one_useful : (pre : PlacementValue) (s : ScheduleValue) (k chunk : ℕ) (h : Hop) → is_hop_below pre.chunks pre.nodes h ≡ true → HoldsAt pre s h → LacksAt pre s h → IsUseful pre.nodes (sends_now (k + 1) chunk) (λ v. holds (after pre s k) (chunk, v)) h
one_useful pre s k chunk h below held lacked = grind (arith, sends_now)

all_useful : (pre : PlacementValue) (s : ScheduleValue) (k chunk : ℕ) (hops : List Hop) → AllByRecursion (λ h. is_hop_below pre.chunks pre.nodes h ≡ true) hops → AllByRecursion (HoldsAt pre s) hops → AllByRecursion (LacksAt pre s) hops → AllByRecursion (IsUseful pre.nodes (sends_now (k + 1) chunk) (λ v. holds (after pre s k) (chunk, v))) hops
all_useful pre s k chunk [] below held lacked = tt
all_useful pre s k chunk (h ∷ hops) below held lacked = (one_useful pre s k chunk h below.0 held.0 lacked.0, all_useful pre s k chunk hops below.1 held.1 lacked.1)

apart_ends : (a b c d x : ℕ) → (eqb a b && eqb c d) ≡ false → a ≡ x → b ≡ x → eqb d c ≡ false
apart_ends a b c d x apart first second = grind (arith, nat_tests)

once_of : (step chunk : ℕ) (hops : List Hop) → AllPairs (λ a b. same_pair (a.chunk, a.to) (b.chunk, b.to) ≡ false) hops → Once (sends_now step chunk) hops
once_of step chunk [] pairs = tt
once_of step chunk (h ∷ hops) pairs = (
  each_weaker (λ o. same_pair (h.chunk, h.to) (o.chunk, o.to) ≡ false) (λ o. sends_now step chunk h ≡ true → sends_now step chunk o ≡ true → eqb o.to h.to ≡ false)
      (λ o apart now now_too. apart_ends h.chunk o.chunk h.to o.to chunk apart (eqb-true h.chunk chunk (and_parts (eqb h.step step) (eqb h.chunk chunk) now).1) (eqb-true o.chunk chunk (and_parts (eqb o.step step) (eqb o.chunk chunk) now_too).1))
      hops (recursion_from_All (λ o. same_pair (h.chunk, h.to) (o.chunk, o.to) ≡ false) hops (pairs_head (λ a b. same_pair (a.chunk, a.to) (b.chunk, b.to) ≡ false) h hops pairs)),
  once_of step chunk hops (pairs_tail (λ a b. same_pair (a.chunk, a.to) (b.chunk, b.to) ≡ false) h hops pairs),
)

-- ---- what the holders have of one node's contribution is always one

-- the contributions of a node to a chunk, over those that hold it after so many steps, and after so many steps of the inverse
abbrev weight : PlacementValue → ScheduleValue → ℕ → ℕ → ℕ → ℕ → ℕ
weight pre s chunk m k j = sum_by (λ v. if_so (holds (after pre s k) (chunk, v)) (own (returned pre.nodes s j) chunk m v)) (range_with_len 0 pre.nodes)

-- a valid schedule in range that wastes no send, and brings this chunk to every node
pub record Brings (pre : PlacementValue) (s : ScheduleValue) (chunk : ℕ) : Type 0 where
  pub valid : IsSchedule s
  pub in_range : IsInRange pre.chunks pre.nodes s
  pub tight : Tight pre s
  pub chunk_is : chunk < pre.chunks
  pub everywhere : (v : ℕ) → v < pre.nodes → holds (after pre s (length s.rounds)) (chunk, v) ≡ true

weight_at_end : (pre : PlacementValue) (s : ScheduleValue) (chunk m : ℕ) → Brings pre s chunk → m < pre.nodes → weight pre s chunk m (length s.rounds) 0 ≡ 1
weight_at_end pre s chunk m is below =
    sum_alike (λ v. if_so (holds (after pre s (length s.rounds)) (chunk, v)) (own (returned pre.nodes s 0) chunk m v)) (only_at m (λ _. 1)) 0 pre.nodes (λ v from to.
    ap (λ b. if_so b (own (returned pre.nodes s 0) chunk m v)) (is.everywhere v (omega (arith, to))) ∙ get_or-map-range_with_len (λ other. cond (eqb other v) 1 0) 0 pre.nodes m m 0 below (omega arith))
    ∙ sum_at m (λ _. 1) 0 pre.nodes (omega arith) (omega (arith, below))

weight_before : (pre : PlacementValue) (s : ScheduleValue) (chunk m k j : ℕ) → Brings pre s chunk → m < pre.nodes → suc k + j ≡ length s.rounds → weight pre s chunk m k (suc j) ≡ weight pre s chunk m (suc k) j
weight_before pre s chunk m k j is below turn =
    let held : ℕ → Bool = λ v. holds (after pre s k) (chunk, v) in
    let g : ℕ → ℕ = own (returned pre.nodes s j) chunk m in
    let now : Hop → Bool = sends_now (k + 1) chunk in
    let step_is : length s.rounds - j ≡ k + 1 = omega (arith, turn) in
    let holders : AllByRecursion (HoldsAt pre s) s.sends = recursion_from_All (HoldsAt pre s) s.sends is.tight.sender in
    let useful = all_useful pre s k chunk s.sends (recursion_from_All (λ h. is_hop_below pre.chunks pre.nodes h ≡ true) s.sends is.in_range) holders (recursion_from_All (LacksAt pre s) s.sends is.tight.receiver) in
    let back : weight pre s chunk m k (suc j) ≡ back_sum pre.nodes now held g s.sends =
    sum_alike (λ v. if_so (held v) (own (returned pre.nodes s (suc j)) chunk m v)) (λ v. if_so (held v) (g v + spread now g v s.sends)) 0 pre.nodes (λ v from to.
    ap (λ x. if_so (held v) x) (returned_more pre.nodes m chunk v j s is.valid below (omega (arith, turn)) ∙ ap (λ step. g v + spread (sends_now step chunk) g v s.sends) step_is)) in
    let on : on_sum pre.nodes now held g s.sends ≡ weight pre s chunk m (suc k) j =
    sum_alike (λ v. if_so (held v || reached now v s.sends) (g v)) (λ v. if_so (holds (after pre s (suc k)) (chunk, v)) (g v)) 0 pre.nodes (λ v from to.
    ap (λ b. if_so b (g v)) (sym (holds_more pre s k chunk v (senders_of pre s k s.sends holders) is.chunk_is (omega (arith, to))))) in
    back ∙ (one_step pre.nodes now held g s.sends useful (once_of (k + 1) chunk s.sends is.tight.once) ∙ on)

weight_is : (pre : PlacementValue) (s : ScheduleValue) (chunk m j k : ℕ) → Brings pre s chunk → m < pre.nodes → k + j ≡ length s.rounds → weight pre s chunk m k j ≡ 1
weight_is pre s chunk m zero k is below turn = grind (arith, weight_at_end pre s chunk m is below)
weight_is pre s chunk m (suc j) k is below turn = grind (arith, weight_before pre s chunk m k j is below, weight_is pre s chunk m j (suc k) is below (omega (arith, turn)))

-- the one holder has one contribution of each node
pub one_at_holder : (pre : PlacementValue) (s : ScheduleValue) (chunk n m : ℕ) → Brings pre s chunk → n < pre.nodes → holds pre (chunk, n) ≡ true → ((v : ℕ) → v < pre.nodes → holds pre (chunk, v) ≡ true → v ≡ n) → m < pre.nodes → own (returned pre.nodes s (length s.rounds)) chunk m n ≡ 1
one_at_holder pre s chunk n m is inside holder only below =
    let g : ℕ → ℕ = own (returned pre.nodes s (length s.rounds)) chunk m in
    let all : weight pre s chunk m 0 (length s.rounds) ≡ sum_by (only_at n g) (range_with_len 0 pre.nodes) =
    sum_alike (λ v. if_so (holds pre (chunk, v)) (g v)) (only_at n g) 0 pre.nodes (λ v from to. ap (λ b. if_so b (g v)) (alone v (omega (arith, to)))) in
    let mine : sum_by (only_at n g) (range_with_len 0 pre.nodes) ≡ g n = sum_at n g 0 pre.nodes (omega arith) (omega (arith, inside)) in
    let one : weight pre s chunk m 0 (length s.rounds) ≡ 1 = weight_is pre s chunk m (length s.rounds) 0 is below (omega arith) in
    omega (arith, all, mine, one)
  where
    alone : (v : ℕ) → v < pre.nodes → holds pre (chunk, v) ≡ eqb n v
    alone v to = elim (cases_Bool (holds pre (chunk, v))) [ inl held ↦ held ∙ sym (eq-eqb n v (sym (only v to held))) | inr lacked ↦ lacked ∙ sym (ne_eqb n v (λ same. false≢true (sym lacked ∙ ap (λ x. holds pre (chunk, x)) (sym same) ∙ holder))) ]
