-- Orders of a machine in which every step copies (this project's own).
use Rattle.std.specs.Prelude.{◌≡◌, ℕ, ◌<◌, true, List, length}
use Rattle.schedule.specs.{Sends.ScheduleValue, Placed.PlacementValue, Running.after, Bags.of_placement}
use Rattle.bag_runs.specs.Stores.{stored}
use Rattle.node_programs.specs.{Machines.{State, is_finished}, Ended.LeadsTo}

-- whatever the order of events, the machine of a schedule without a step that adds ends with what is held after the last step
abbrev pub EveryCopyingOrderEndsAsHeld : Type 0
EveryCopyingOrderEndsAsHeld = (pre : PlacementValue) (s : ScheduleValue) (order : List ℕ) (end : State) → 0 < pre.nodes → LeadsTo pre.chunks pre.nodes (of_placement pre) s 0 order end
    → is_finished end ≡ true → end.store ≡ stored pre.chunks pre.nodes (of_placement (after pre s (length s.rounds)))
