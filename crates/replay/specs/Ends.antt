-- How runs end (this project's own).
use Rattle.std.specs.Prelude.{◌≡◌, ℕ, ◌-◌, true, if◌then◌else◌, List, [], ◌∷◌, length}
use Rattle.schedule.specs.{Bags.Bags, Sends.ScheduleValue, JoinedRuns.joined_after}
use Rattle.bag_runs.specs.Stores.{stored}
use Rattle.node_programs.specs.{Machines.{State, is_finished}, Runs.operations, Ended.machine_of, Stops.StopValue}
use Rattle.replay.specs.declared.by_list.ListEnd.{ListEnd, TheVariants.{Stopped, Finished, Unfinished}}

-- the machine of a schedule has come to its end: every program is at its end, after as many events as there were operations, and the store is the last of the joined run
pub record IsLast (chunks nodes : ℕ) (start : Bags) (s : ScheduleValue) (adding : ℕ) (end : State) (order : List ℕ) : Type 0 where
  pub finished : is_finished end ≡ true
  pub events : length order ≡ operations (machine_of chunks nodes start s adding)
  pub store : end.store ≡ stored chunks nodes (joined_after start s adding (length s.rounds))

-- so many events were given, and these were not done: the place of the first of them, or whether every program is at its end
abbrev pub ended_by : ℕ → State → List ℕ → ListEnd
ended_by given state [] = if is_finished state then Finished else Unfinished
ended_by given state (node ∷ nodes) = Stopped (given - length (node ∷ nodes))

abbrev pub end_of : ℕ → StopValue → ListEnd
end_of given stop = ended_by given stop.state stop.left
