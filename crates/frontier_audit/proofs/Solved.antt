-- The check of a point's schedule passes exactly where it solves, or sums.
use Rattle.std.proofs.Common.{arith, ◌≡◌, Bool, true, if◌then◌else◌}
use Rattle.schedule.{specs.{Judging.verdict_of}, proofs.Verdicts.tells_solves}
use Rattle.inversion.{specs.{declared.verdict.SumVerdict.SumVerdict, Judging.sum_verdict_of, Saying.{says_solves, says_sums}}, proofs.Told.sums_exactly}
use Rattle.inversion.specs.declared.verdict.SumVerdict.TheVariants as sums
use Rattle.collective_spec.specs.Collectives.{adds_up}
use Rattle.candidate_order.specs.Frontiers.{QuestionValue, PointValue, IsSolvedBy, Achieves, instance_for, demand_for}
use Rattle.report_form.specs.Reports.{HasSchedule}
use Rattle.frontier_audit.specs.Solutions.{is_solution}

pub sums_said : (v : SumVerdict) → says_sums v ≡ true → v ≡ sums.Sums
sums_said v e = grind arith

module _ (q : QuestionValue) (p : PointValue) where
  abbrev judged : Bool → Bool
  judged b = if b then says_sums (sum_verdict_of q.topology (demand_for q p.candidate) p.schedule) else says_solves (verdict_of q.topology (instance_for q p.candidate).pre (instance_for q p.candidate).post p.schedule)

  achieves_by : HasSchedule q p → (b : Bool) → judged b ≡ true → Achieves b q p.candidate p.schedule
  achieves_by h b e = grind (arith, tells_solves, sums_exactly, sums_said)

  pub solved_by : HasSchedule q p → is_solution q p ≡ true → IsSolvedBy q p.candidate p.schedule
  solved_by h e = record { valid = h.schedule; in_range = h.in_range; achieves = achieves_by h (adds_up q.spec) e }

  pub by_solution : IsSolvedBy q p.candidate p.schedule → is_solution q p ≡ true
  by_solution h = grind (arith, tells_solves, sums_exactly)
