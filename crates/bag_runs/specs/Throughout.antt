-- Joined runs in which every step copies, and those in which every step adds (this project's own).
use Rattle.std.specs.Prelude.{◌≡◌, ℕ, ◌<◌, ◌≤◌, not}
use Rattle.schedule.specs.{Sends.{IsInRange, ScheduleValue}, Placed.{PlacementValue, holds}, Running.after, Bags.{Bags, is_empty, of_placement}, Summing.bags_after, JoinedRuns.joined_after}

-- from a placement, without a step that adds, each bag stays that of the run of the placement
abbrev pub CopiesThroughout : Type 0
CopiesThroughout = (pre : PlacementValue) (s : ScheduleValue) (n : ℕ) (pair : ℕ × ℕ) → 0 < pre.nodes → IsInRange pre.chunks pre.nodes s → pair.0 < pre.chunks → pair.1 < pre.nodes
    → joined_after (of_placement pre) s 0 n pair ≡ of_placement (after pre s n) pair

-- so the bags that are not empty are what is held
abbrev pub IsFilledWhereHeld : Type 0
IsFilledWhereHeld = (pre : PlacementValue) (s : ScheduleValue) (n : ℕ) (pair : ℕ × ℕ) → 0 < pre.nodes → IsInRange pre.chunks pre.nodes s → pair.0 < pre.chunks → pair.1 < pre.nodes
    → not (is_empty (joined_after (of_placement pre) s 0 n pair)) ≡ holds (after pre s n) pair

-- as far as steps add, the bags are those of the sum
abbrev pub AddsThroughout : Type 0
AddsThroughout = (start : Bags) (s : ScheduleValue) (adding n : ℕ) → n ≤ adding → joined_after start s adding n ≡ bags_after start s.sends n
