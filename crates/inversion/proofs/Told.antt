-- The verdict is that it sums exactly where nothing fails.
use Rattle.std.proofs.Common.{arith, ◌≡◌, ℕ, Option, None, length, ◌↔◌, sum}
use Rattle.schedule.{specs.{declared.hop.Hop.Hop, Links.TopologyValue, Sends.ScheduleValue, Placed.PlacementValue, Bags.Bags, Summing.Sums}, proofs.{Verdicts.fits_exactly, Bagging.counted_after}}
use Rattle.inversion.specs.declared.verdict.SumVerdict.TheVariants as verdict
use Rattle.inversion.{specs.Judging.{sum_judged, sum_verdict_of}, proofs.Counts.{even_everywhere, none_uneven}}

-- where it sums, no part has failed
pub judged_sums : (t : TopologyValue) (s : ScheduleValue) (last : Bags) (h : Option Hop) (turn : Option (ℕ × ℕ)) (clash due : Option (ℕ × ℕ × ℕ)) → sum_judged t s last h turn clash due ≡ verdict.Sums → (h ≡ None) × (turn ≡ None) × (clash ≡ None) × (due ≡ None)
judged_sums t s last h turn clash due is = grind arith

pub sums_exactly : (t : TopologyValue) (demand : PlacementValue) (s : ScheduleValue) → (sum_verdict_of t demand s ≡ verdict.Sums) ↔ Sums t demand s (length s.rounds) (sum s.rounds)
sums_exactly t demand s = grind (arith, judged_sums, fits_exactly, even_everywhere, counted_after, none_uneven)
