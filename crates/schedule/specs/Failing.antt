-- What each verdict says: which part of the claim that a schedule solves an instance fails, links coming before bandwidth and bandwidth before the pairs that are demanded (this project's own order).
use Rattle.std.specs.Prelude.{◌≡◌, ◌↔◌, ◌==◌, ◌&&◌, ◌||◌, ℕ, ◌*◌, ◌<◌, ◌≤◌, Bool, true, false, nat_lt, length, sum, All, Contains}
use Rattle.schedule.specs.{declared.{hop.Hop.Hop, verdict.Verdict.Verdict}, Links.{TopologyValue, is_usable}, Placed.{PlacementValue, holds}, Running.after}
use Rattle.schedule.specs.{Sends.{ScheduleValue, IsStep, link_of, hop_before}, Fitting.{Fits, load, rounds_at}, Solving.Solves, Judging.group_at}
use Rattle.schedule.specs.declared.verdict.Verdict.TheVariants as verdict

-- every send has a usable link
abbrev pub AllUsable : TopologyValue → ScheduleValue → Type 0
AllUsable t s = All (λ h. is_usable t (link_of h) ≡ true) s.sends

-- this send has none, and each send before it has one
pub record IsFirstUnlinked (t : TopologyValue) (s : ScheduleValue) (hop : Hop) : Type 0 where
  pub sent : Contains s.sends hop
  pub unlinked : is_usable t (link_of hop) ≡ false
  pub before : All (λ h. hop_before h hop ≡ true → is_usable t (link_of h) ≡ true) s.sends

-- the order of pairs: by the first number and then by the second
abbrev pub pair_before : ℕ × ℕ → ℕ × ℕ → Bool
pair_before a b = nat_lt a.0 b.0 || (a.0 == b.0 && nat_lt a.1 b.1)

-- in this step the group carries so many sends, more than its width allows, and no group does in an earlier step, nor an earlier group in this one
pub record IsFirstOverfull (t : TopologyValue) (s : ScheduleValue) (step group count : ℕ) : Type 0 where
  pub step_is : IsStep (length s.rounds) step
  pub group_is : group < length t.groups
  pub load_is : count ≡ load (group_at t group) step s.sends
  pub over : (group_at t group).width * rounds_at s step < count
  pub before : (i g : ℕ) → IsStep (length s.rounds) i → g < length t.groups → pair_before (i, g) (step, group) ≡ true → load (group_at t g) i s.sends ≤ (group_at t g).width * rounds_at s i

-- this pair is demanded and not held, and each pair before it that is demanded is held
pub record IsFirstLacking (post last : PlacementValue) (pair : ℕ × ℕ) : Type 0 where
  pub demanded : holds post pair ≡ true
  pub lacking : holds last pair ≡ false
  pub before : All (λ other. pair_before other pair ≡ true → holds last other ≡ true) post.pairs

-- `Solves` is said exactly of a schedule that solves the instance in its own number of steps and of rounds
abbrev pub TellsSolves : TopologyValue → PlacementValue → PlacementValue → ScheduleValue → Verdict → Type 0
TellsSolves t pre post s v = (v ≡ verdict.Solves) ↔ Solves t pre post s (length s.rounds) (sum s.rounds)

-- `NoLink` names exactly the first send without a usable link
abbrev pub TellsNoLink : TopologyValue → ScheduleValue → Verdict → Type 0
TellsNoLink t s v = (hop : Hop) → (v ≡ verdict.NoLink hop) ↔ IsFirstUnlinked t s hop

-- `Overfull` names exactly the first step and group over the bandwidth, where all links are usable
abbrev pub TellsOverfull : TopologyValue → ScheduleValue → Verdict → Type 0
TellsOverfull t s v = (step group count : ℕ) → (v ≡ verdict.Overfull step group count) ↔ (AllUsable t s × IsFirstOverfull t s step group count)

-- `Lacking` names exactly the first pair that is demanded and not held after the last step, where the schedule fits
abbrev pub TellsLacking : TopologyValue → PlacementValue → PlacementValue → ScheduleValue → Verdict → Type 0
TellsLacking t pre post s v = (chunk node : ℕ) → (v ≡ verdict.Lacking chunk node) ↔ (Fits t s × IsFirstLacking post (after pre s (length s.rounds)) (chunk, node))
