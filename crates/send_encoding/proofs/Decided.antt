-- The clauses of arrivals and sends hold exactly for the tight runs of schedules.
use Rattle.std.proofs.Common.{◌≡◌, ℕ, ◌+◌, Bool, true, List, [], refl, ◌∙◌, arith}
use Rattle.schedule.specs.{Links.TopologyValue, Placed.{PlacementValue, IsPlacement}, Sends.{ScheduleValue, IsInRange}, Solving.Solves}
use Rattle.cnf_formula.specs.Literals.{all_hold}
use Rattle.send_encoding.specs.{Variables.{map_of, arrivals, sends}, Sending.sending, Assigning.assigned, Leading.{had, brought}, Agreeing.{IsTightRun, SatisfiesAs}}
use Rattle.send_encoding.proofs.{Mapped.links_join, Ascending.links_ascend, Agreed.{sent_tightly, run_arrives}, Complete.sending_holds, Assigned.{assigned_length, arrival_value, sent_value}, Scheduled.schedule_moves}

pub tight_run : (t : TopologyValue) (pre post : PlacementValue) (steps : ℕ) (values : List Bool) → IsPlacement pre → pre.nodes ≡ t.nodes
    → all_hold values (sending (map_of t pre steps) pre post) ≡ true → IsTightRun (map_of t pre steps) pre values
tight_run t pre post steps values ok nodes h =
    let m = map_of t pre steps in
    record {
      tight = λ rounds. sent_tightly m pre post values rounds refl nodes (links_join t pre steps) (links_ascend t) h;
      arrivals = λ rounds. run_arrives m pre post values rounds refl nodes (links_join t pre steps) (links_ascend t) h ok;
    }

pub run_satisfies : (t : TopologyValue) (pre post : PlacementValue) (s : ScheduleValue) (steps rounds : ℕ) → pre.nodes ≡ t.nodes → IsInRange pre.chunks pre.nodes s → Solves t pre post s steps rounds
    → SatisfiesAs (map_of t pre steps) pre s (record { vars = arrivals (map_of t pre steps) + sends (map_of t pre steps); clauses = sending (map_of t pre steps) pre post })
run_satisfies t pre post s steps rounds nodes range solves =
    let m = map_of t pre steps in
    let a : ℕ → ℕ → ℕ → Bool = had pre s in
    let x : ℕ → ℕ → ℕ → Bool = brought m pre s in
    let links = links_join t pre steps in
    record {
      values = assigned m a x [];
      satisfies = record {
        values_are = assigned_length m a x [] ∙ omega arith;
        holds = sending_holds m pre post a x (assigned m a x []) links (arrival_value m a x []) (sent_value m a x []) (schedule_moves t pre post s steps rounds nodes links range solves);
      };
      arrivals = arrival_value m a x [];
    }
