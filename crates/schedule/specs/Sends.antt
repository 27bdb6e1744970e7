-- Schedules: rounds for each step, and sends (Cai et al., PPoPP 2021, section on k-synchronous algorithms).
use Rattle.std.specs.Prelude.{◌≡◌, ◌==◌, ◌&&◌, ◌||◌, ℕ, ◌<◌, ◌≤◌, Bool, true, List, length, nat_lt, All, AllPairs}
use Rattle.schedule.specs.declared.hop.Hop.{Hop}

-- the number of rounds of each step, and the sends
pub record ScheduleValue : Type 0 where
  pub rounds : List ℕ
  pub sends : List Hop

abbrev pub link_of : Hop → ℕ × ℕ
link_of h = (h.from, h.to)

-- the order of sends: by step, chunk, from and to
abbrev pub hop_before : Hop → Hop → Bool
hop_before a b =
    nat_lt a.step b.step || (a.step == b.step
    && (nat_lt a.chunk b.chunk || (a.chunk == b.chunk
    && (nat_lt a.from b.from || (a.from == b.from
    && nat_lt a.to b.to)))))

-- from 1 to 9 rounds in a step
pub record IsRound (rounds : ℕ) : Type 0 where
  pub some : 0 < rounds
  pub few : rounds ≤ 9

-- a step is numbered from 1
pub record IsStep (steps step : ℕ) : Type 0 where
  pub from : 0 < step
  pub to : step ≤ steps

-- 1 to 16 steps, and sends in strictly ascending order, so each at most once
pub record IsSchedule (s : ScheduleValue) : Type 0 where
  pub some : 0 < length s.rounds
  pub few : length s.rounds ≤ 16
  pub rounds : All IsRound s.rounds
  pub steps : All (λ h. IsStep (length s.rounds) h.step) s.sends
  pub ascending : AllPairs (λ a b. hop_before a b ≡ true) s.sends

-- the chunk and the nodes of a send are in range
abbrev pub is_hop_below : ℕ → ℕ → Hop → Bool
is_hop_below chunks nodes h = nat_lt h.chunk chunks && (nat_lt h.from nodes && nat_lt h.to nodes)

-- all of them are
abbrev pub IsInRange : ℕ → ℕ → ScheduleValue → Type 0
IsInRange chunks nodes s = All (λ h. is_hop_below chunks nodes h ≡ true) s.sends
