-- The first part of a schedule that does not fit, and the verdict where there is one and where there is none.
use Rattle.std.proofs.Common.{arith, ◌≡◌, ℕ, ◌≤◌, length, Option, Some, None, ◌↔◌, sum}
use Rattle.schedule.specs.{Links.{GroupValue, TopologyValue}, Sends.ScheduleValue, Fitting.load, Placed.PlacementValue, Summing.Sums, Judging.{first_unlinked, first_overfull, group_at}, Bags.{Bags, contributions}}
use Rattle.schedule.specs.JoinedRuns.{joined_after}
use Rattle.bag_runs.proofs.JoinedSteps.{adding_throughout}
use Rattle.inversion.{specs.{declared.verdict.SumVerdict.SumVerdict, Judging.{counts_judged, first_uneven, misfit_of, sum_judged, sum_verdict_of}}, proofs.Told.sums_exactly}
use Rattle.inversion.specs.declared.verdict.SumVerdict.TheVariants as verdict

pub misfit_overfull : (t : TopologyValue) (s : ScheduleValue) (step group count : ℕ) (carrier : GroupValue) → None ≡ first_unlinked t s → Some (step, group) ≡ first_overfull t s → carrier ≡ group_at t group → count ≡ load carrier step s.sends → Some (verdict.Overfull step group count) ≡ misfit_of t s
misfit_overfull t s step group count carrier none found is loaded = grind arith

-- where something does not fit, that is said
pub judged_misfit : (t : TopologyValue) (s : ScheduleValue) (last : Bags) (clash due : Option (ℕ × ℕ × ℕ)) (v : SumVerdict) → Some v ≡ misfit_of t s → v ≡ sum_judged t s last (first_unlinked t s) (first_overfull t s) clash due
judged_misfit t s last clash due v is = grind arith

-- where all fits, the clashes and the counts are judged
pub judged_fitting : (t : TopologyValue) (s : ScheduleValue) (last : Bags) (clash due : Option (ℕ × ℕ × ℕ)) → None ≡ misfit_of t s → sum_judged t s last None None clash due ≡ sum_judged t s last (first_unlinked t s) (first_overfull t s) clash due
judged_fitting t s last clash due none = grind arith

-- where all fits and every step adds, the counts are judged
pub verdict_counts : (t : TopologyValue) (demand : PlacementValue) (s : ScheduleValue) (adding : ℕ) (v : SumVerdict) → length s.rounds ≤ adding → None ≡ misfit_of t s
    → v ≡ counts_judged (joined_after (contributions t.nodes) s adding (length s.rounds)) (first_uneven (joined_after (contributions t.nodes) s adding (length s.rounds)) t.nodes demand.pairs) → v ≡ sum_verdict_of t demand s
verdict_counts t demand s adding v all none is = grind (arith, adding_throughout, judged_fitting)

-- the verdict, and what it says
pub record Told (t : TopologyValue) (demand : PlacementValue) (s : ScheduleValue) (v : SumVerdict) : Type 0 where
  pub exact : v ≡ sum_verdict_of t demand s
  pub sums : (v ≡ verdict.Sums) ↔ Sums t demand s (length s.rounds) (sum s.rounds)

pub told : (t : TopologyValue) (demand : PlacementValue) (s : ScheduleValue) (v : SumVerdict) → v ≡ sum_verdict_of t demand s → Told t demand s v
told t demand s v is = grind (arith, sums_exactly)
