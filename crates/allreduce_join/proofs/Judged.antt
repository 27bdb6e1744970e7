-- The verdict on a joined schedule, from what fails first.
use Rattle.std.{proofs.Common.{arith, ◌≡◌, ℕ, true, List, [], ◌∷◌, Option, Some, None, refl, ap, ◌↔◌}, specs.List.filter}
use Rattle.schedule.specs.{Links.TopologyValue, Sends.{ScheduleValue, IsSchedule, IsInRange}, Placed.{PlacementValue, all_pairs, placed}, Bags.Bags, Judging.{first_overfull, first_unlinked}, JoinedRuns.{AllSummed, first_clash}}
use Rattle.inversion.{specs.{declared.verdict.SumVerdict.SumVerdict, Judging.{counts_judged, first_uneven, misfit_of, sum_judged}}, proofs.Misfits.{judged_fitting, judged_misfit}}
use Rattle.inversion.specs.declared.verdict.SumVerdict.TheVariants as verdict
use Rattle.allreduce_join.{specs.Judging.{joined_bags, joined_verdict_of}, proofs.Told.all_summed_exactly}

pub all_pass : (pairs : List (ℕ × ℕ)) → filter (λ pair. true) pairs ≡ pairs
all_pass [] = refl
all_pass (pair ∷ pairs) = ap (λ ps. pair ∷ ps) (all_pass pairs)

-- ---- what fails before the counts are looked at

module _ (t : TopologyValue) (chunks : ℕ) (s : ScheduleValue) (adding : ℕ) (last : Bags) (due : Option (ℕ × ℕ × ℕ)) where
  abbrev judged : SumVerdict
  judged = sum_judged t s last (first_unlinked t s) (first_overfull t s) (first_clash chunks t.nodes s adding) due

  pub fault_misfit : (v : SumVerdict) → Some v ≡ misfit_of t s → v ≡ judged
  fault_misfit v found = judged_misfit t s last (first_clash chunks t.nodes s adding) due v found

  pub fault_clash : (nodes : ℕ) (clash : ℕ × ℕ × ℕ) → nodes ≡ t.nodes → None ≡ misfit_of t s → Some clash ≡ first_clash chunks nodes s adding → verdict.Clash clash.1 clash.2 clash.0 ≡ judged
  fault_clash nodes clash same none found = grind (arith, judged_fitting)

  pub fault_none : (nodes : ℕ) → nodes ≡ t.nodes → None ≡ misfit_of t s → None ≡ first_clash chunks nodes s adding → counts_judged last due ≡ judged
  fault_none nodes same none fine = grind (arith, judged_fitting)

-- ---- the counts

module _ (t : TopologyValue) (chunks : ℕ) (s : ScheduleValue) (adding : ℕ) where
  abbrev pub joined_due : Option (ℕ × ℕ × ℕ)
  joined_due = first_uneven (joined_bags t s adding) t.nodes (all_pairs chunks t.nodes)

  pub joined_counts : (nodes : ℕ) (everywhere : PlacementValue) (v : SumVerdict) → nodes ≡ t.nodes → everywhere ≡ placed chunks nodes (λ pair. true)
      → v ≡ counts_judged (joined_bags t s adding) (first_uneven (joined_bags t s adding) t.nodes everywhere.pairs) → counts_judged (joined_bags t s adding) joined_due ≡ joined_verdict_of t chunks s adding → v ≡ joined_verdict_of t chunks s adding
  joined_counts nodes everywhere v same is said fine = grind (arith, all_pass)

-- the verdict, and what it says
pub record Told (t : TopologyValue) (chunks : ℕ) (s : ScheduleValue) (adding : ℕ) (v : SumVerdict) : Type 0 where
  pub exact : v ≡ joined_verdict_of t chunks s adding
  pub summed : (v ≡ verdict.Sums) ↔ AllSummed t chunks s adding

pub told : (t : TopologyValue) (chunks : ℕ) (s : ScheduleValue) (adding : ℕ) (v : SumVerdict) → IsSchedule s → IsInRange chunks t.nodes s → v ≡ joined_verdict_of t chunks s adding → Told t chunks s adding v
told t chunks s adding v valid in_range is = grind (arith, all_summed_exactly)
