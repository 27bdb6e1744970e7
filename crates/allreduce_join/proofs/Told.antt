-- The verdict on a joined schedule is that it sums exactly where it sums everything everywhere.
use Rattle.std.proofs.Common.{arith, ◌≡◌, ℕ, ◌↔◌}
use Rattle.schedule.{specs.{Links.TopologyValue, Sends.{ScheduleValue, IsSchedule, IsInRange}, JoinedRuns.AllSummed}, proofs.{Verdicts.fits_exactly, Bagging.counted_run, Clashing.{no_clash_from_none, none_from_no_clash}}}
use Rattle.inversion.specs.declared.verdict.SumVerdict.TheVariants as verdict
use Rattle.inversion.proofs.{Counts.{even_everywhere, none_uneven}, Told.judged_sums}
use Rattle.allreduce_join.specs.Judging.{joined_verdict_of}

pub all_summed_exactly : (t : TopologyValue) (chunks : ℕ) (s : ScheduleValue) (adding : ℕ) → IsSchedule s → IsInRange chunks t.nodes s → (joined_verdict_of t chunks s adding ≡ verdict.Sums) ↔ AllSummed t chunks s adding
all_summed_exactly t chunks s adding valid in_range = grind (arith, judged_sums, fits_exactly, no_clash_from_none, even_everywhere, counted_run, none_from_no_clash, none_uneven)
