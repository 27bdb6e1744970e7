-- Runs of a schedule's machine that have come to their ends.
use Rattle.std.proofs.{Common.{◌≡◌, ℕ, ◌≤◌, true, List, [], length, drop, Some, sym, ap, ◌∙◌}, lemmas.{List.drop_all, Option.same_Some}}
use Rattle.schedule.specs.{Bags.Bags, Sends.{IsInRange, IsSchedule, ScheduleValue}}
use Rattle.node_programs.{specs.{Machines.{State, is_finished}, Runs.{chosen, machine_run}, Ended.{GoesToTheEnd, machine_of}, Stops.stop_of}, proofs.{Everywhere.{every_order, every_seed}, Finished.count_by_finished, Stops.whole_runs}}
use Rattle.replay.specs.Ends.{IsLast}

-- a finished run of a schedule's machine has come to its last
pub finished_last : (first end : State) (moves : List ℕ) → machine_run first moves ≡ Some end → is_finished end ≡ true
    → (chunks nodes : ℕ) (start : Bags) (s : ScheduleValue) (adding : ℕ) → IsSchedule s → IsInRange chunks nodes s → first ≡ machine_of chunks nodes start s adding → IsLast chunks nodes start s adding end moves
finished_last first end moves ran ended chunks nodes start s adding valid range is =
    let machine : State = machine_of chunks nodes start s adding in
    let from : machine_run machine moves ≡ Some end = ap (λ m. machine_run m moves) (sym is) ∙ ran in
    record {
      finished = ended;
      events = count_by_finished moves machine end from ended;
      store = every_order chunks nodes start s adding moves end (record { valid = valid; in_range = range; ran = from }) ended;
    }

-- what a seed draws is such a run
pub drawn_last : (first end : State) (moves : List ℕ) (seed : ℕ) → moves ≡ chosen first seed → machine_run first moves ≡ Some end
    → (chunks nodes : ℕ) (start : Bags) (s : ScheduleValue) (adding : ℕ) → IsSchedule s → IsInRange chunks nodes s → first ≡ machine_of chunks nodes start s adding → IsLast chunks nodes start s adding end moves
drawn_last first end moves seed drawn ran chunks nodes start s adding valid range is =
    let machine : State = machine_of chunks nodes start s adding in
    let goes : GoesToTheEnd machine (chosen machine seed) = every_seed chunks nodes start s adding seed valid range in
    let order : moves ≡ chosen machine seed = drawn ∙ ap (λ m. chosen m seed) is in
    let same : goes.end ≡ end = same_Some goes.end end (sym goes.ran ∙ ap (machine_run machine) (sym order) ∙ ap (λ m. machine_run m moves) (sym is) ∙ ran) in
    finished_last first end moves ran (ap is_finished (sym same) ∙ goes.finished) chunks nodes start s adding valid range is

-- a list of which nothing is left is a run
pub listed_run : (first now : State) (order : List ℕ) (place : ℕ) → stop_of first order ≡ stop_of now (drop place order) → length order ≤ place → machine_run first order ≡ Some now
listed_run first now order place is past =
    let stop : stop_of first order ≡ stop_of now [] = is ∙ ap (stop_of now) (drop_all place order past) in
    whole_runs order first (ap (λ x. x.left) stop) ∙ ap (λ x. Some x.state) stop
