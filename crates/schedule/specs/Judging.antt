-- The verdict on a schedule: the first part of the claim that it solves an instance that does not hold.
use Rattle.std.specs.{Prelude.{◌*◌, ℕ, not, Bool, List, [], length, map, Option, None, Some, find, slice_index_or, nat_lt}, List.{flat_map, range_with_len}}
use Rattle.schedule.specs.{declared.{hop.Hop.Hop, verdict.Verdict.{Verdict, TheVariants.{Solves, Overfull, Lacking, NoLink}}}, Sends.{ScheduleValue, link_of}}
use Rattle.schedule.specs.{Links.{GroupValue, TopologyValue, is_usable}, Placed.{PlacementValue, holds}, Running.after, Fitting.{load, rounds_at}}

-- the first send without a usable link
abbrev pub first_unlinked : TopologyValue → ScheduleValue → Option Hop
first_unlinked t s = find (λ h. not (is_usable t (link_of h))) s.sends

abbrev pub group_at : TopologyValue → ℕ → GroupValue
group_at t group = slice_index_or t.groups group (record { links = []; width = 0 })

-- each step with each group, steps from 1 and groups from 0, by step and then by group
abbrev pub turns : TopologyValue → ScheduleValue → List (ℕ × ℕ)
turns t s = flat_map (λ step. map (λ group. (step, group)) (range_with_len 0 (length t.groups))) (range_with_len 1 (length s.rounds))

-- more sends of the step have their link in the group than its width allows in the step's rounds
abbrev pub is_overfull : TopologyValue → ScheduleValue → ℕ × ℕ → Bool
is_overfull t s turn = nat_lt ((group_at t turn.1).width * rounds_at s turn.0) (load (group_at t turn.1) turn.0 s.sends)

abbrev pub first_overfull : TopologyValue → ScheduleValue → Option (ℕ × ℕ)
first_overfull t s = find (is_overfull t s) (turns t s)

-- the first pair that is demanded and not held after the last step
abbrev pub first_lacking : PlacementValue → PlacementValue → ScheduleValue → Option (ℕ × ℕ)
first_lacking pre post s = let last = after pre s (length s.rounds) in find (λ pair. not (holds last pair)) post.pairs

abbrev pub judged : TopologyValue → ScheduleValue → Option Hop → Option (ℕ × ℕ) → Option (ℕ × ℕ) → Verdict
judged t s (Some h) over lacking = NoLink h
judged t s None (Some turn) lacking = Overfull turn.0 turn.1 (load (group_at t turn.1) turn.0 s.sends)
judged t s None None (Some pair) = Lacking pair.0 pair.1
judged t s None None None = Solves

-- links first, then bandwidth, then what is demanded
abbrev pub verdict_of : TopologyValue → PlacementValue → PlacementValue → ScheduleValue → Verdict
verdict_of t pre post s = judged t s (first_unlinked t s) (first_overfull t s) (first_lacking pre post s)
