use Rattle.std.proofs.Common.{subst}
use Rattle.schedule.specs.Summing.{SummedSolvable}
use Rattle.candidate_order.{specs.Frontiers.demand_for, proofs.Achieved.{Achievable, achieved}}
use Rattle.cut_bounds.proofs.Bounded.{sums_bound}
use Rattle.cut_bounds.proofs.laws.floors_bound_sums.Goals as goal

pub returns : goal.returns
returns c = record {
  schedules = sums_bound;
  solvable = λ sets q x adds single spec allowed solvable.
      let summed : SummedSolvable q.topology (demand_for q x) x.s x.r = subst (λ b. Achievable b q x) adds (achieved q x solvable) in
      sums_bound sets q.topology q.spec summed.schedule x.s x.r x.c adds single spec allowed summed.sums;
}
