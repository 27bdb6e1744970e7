-- How many sends a schedule has at most, since each stands in it once.
use Rattle.std.proofs.{Common.{◌≡◌, ℕ, zero, suc, ◌+◌, ◌*◌, ◌<◌, ◌≤◌, ◌^◌, Bool, true, ◌&&◌, ◌||◌, eqb, ltb, List, length, get_or, ◌⊎◌, inl, inr, arith}, lemmas.Bool.{and_parts, or_cases, ltb-true, eqb-true, cases_lt}}
use Rattle.std.{proofs.lemmas.List.Elements.All-weaker, specs.List.{All, AllPairs}}
use Rattle.schedule.{specs.{declared.hop.Hop.Hop, Sends.{ScheduleValue, IsSchedule, IsInRange, hop_before, is_hop_below, link_of}, Tables.IsTabled}, proofs.Joining.{IsHopBelow, hop_below}}

-- each send has its link in a table, and their number fits 32 bits
pub record IsNarrow (s : ScheduleValue) : Type 0 where
  pub links : All (λ h. IsTabled (link_of h)) s.sends
  pub few : length s.sends < 2 ^ 32

-- a number for each send, in their order
rank : Hop → ℕ
rank h = h.step * 16777216 + (h.chunk * 256 + (h.from * 16 + h.to))

-- of two in order by a number first, the number is less, or the same and what follows decides
ahead : (a b : ℕ) (rest : Bool) → (ltb a b || (eqb a b && rest)) ≡ true → (a < b) ⊎ ((a ≡ b) × (rest ≡ true))
ahead a b rest before =
    elim (or_cases (ltb a b) (eqb a b && rest) before)
    [ inl less ↦ inl (ltb-true a b less) | inr same ↦ (let parts = and_parts (eqb a b) rest same in inr (eqb-true a b parts.0, parts.1)) ]

rank_rises : (a b : Hop) → IsHopBelow 65536 16 a → IsHopBelow 65536 16 b → hop_before a b ≡ true → rank a < rank b
unfolding rank
rank_rises a b below_a below_b before =
    elim (ahead a.step b.step _ before) [
      | inl step ↦ omega (arith, step, below_a.chunk, below_a.from, below_a.to)
      | inr (step, chunks) ↦ elim (ahead a.chunk b.chunk _ chunks) [
        | inl chunk ↦ omega (arith, step, chunk, below_a.from, below_a.to)
        | inr (chunk, froms) ↦ elim (ahead a.from b.from _ froms) [ inl from ↦ omega (arith, step, chunk, from, below_a.to) | inr (from, to) ↦ omega (arith, step, chunk, from, ltb-true a.to b.to to) ]
      ]
    ]

rank_small : (h : Hop) → IsHopBelow 65536 16 h → h.step ≤ 16 → rank h < 285212672
unfolding rank
rank_small h below step = omega (arith, below.chunk, below.from, below.to)

-- the rank of a send is at least its place
rank_from : (sends : List Hop) (d : Hop) → All (IsHopBelow 65536 16) sends → AllPairs (λ a b. hop_before a b ≡ true) sends → (i : ℕ) → i < length sends → i ≤ rank (get_or sends i d)
rank_from sends d below ascending zero inside = omega arith
rank_from sends d below ascending (suc i) inside =
    let before : i ≤ rank (get_or sends i d) = rank_from sends d below ascending i (omega arith) in
    omega (arith, rank_rises (get_or sends i d) (get_or sends (suc i) d) (below i d (omega arith)) (below (suc i) d inside) (ascending i (suc i) d (omega arith) inside))

few_sends : (s : ScheduleValue) → IsSchedule s → All (IsHopBelow 65536 16) s.sends → length s.sends < 2 ^ 32
few_sends s is below =
    let d : Hop = record { chunk = 0; from = 0; to = 0; step = 0 } in
    elim (cases_lt 285212672 (length s.sends)) [
      | inl many ↦ absurd (omega (arith, rank_from s.sends d below is.ascending 285212672 many, rank_small (get_or s.sends 285212672 d) (below 285212672 d many) (omega (arith, is.few, (is.steps 285212672 d many).to))))
      | inr few ↦ omega (arith, few)
    ]

pub narrow : (s : ScheduleValue) → IsSchedule s → IsInRange 65536 16 s → IsNarrow s
narrow s is range =
    let below : All (IsHopBelow 65536 16) s.sends = All-weaker (λ h. is_hop_below 65536 16 h ≡ true) (IsHopBelow 65536 16) (hop_below 65536 16) s.sends range in
    record { links = All-weaker (IsHopBelow 65536 16) (λ h. IsTabled (link_of h)) (λ h b. (b.from, b.to)) s.sends below; few = few_sends s is below }
