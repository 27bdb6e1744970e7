-- A candidate is solvable if and only if some schedule of the size of its instance does what is asked.
use Rattle.std.proofs.Common.{arith, Bool, true, false}
use Rattle.schedule.specs.{Links.TopologyValue, Sends.{ScheduleValue, IsSchedule}, Solving.Solvable, Summing.SummedSolvable}
use Rattle.collective_spec.specs.{declared.spec.Spec.{Spec, TheVariants.{Standard, Custom}}, Collectives.adds_up}
use Rattle.candidate_order.specs.{declared.candidate.Candidate.Candidate, Ranges.LimitsValue, Frontiers.{QuestionValue, IsSized, Achieves, IsSolvable, demand_for, instance_for}}

abbrev pub Achievable : Bool → QuestionValue → Candidate → Type 0
Achievable true q x = SummedSolvable q.topology (demand_for q x) x.s x.r
Achievable false q x = Solvable q.topology (instance_for q x).pre (instance_for q x).post x.s x.r

abbrev pub IsAchievable : QuestionValue → Candidate → Type 0
IsAchievable q x = Achievable (adds_up q.spec) q x

module _ (t : TopologyValue) (l : LimitsValue) (x : Candidate) where
  abbrev asked : Spec → QuestionValue
  asked spec = record { topology = t; spec = spec; limits = l }

  abbrev Sized : Bool → Spec → ScheduleValue → Type 0
  Sized adds spec s = IsSchedule s × (IsSized (asked spec) x s × Achieves adds (asked spec) x s)

  shown : (adds : Bool) (spec : Spec) (s : ScheduleValue) → Sized adds spec s → Achievable adds (asked spec) x
  shown true (Standard collective) s by = record { schedule = s; valid = by.0; in_range = by.1.0; sums = by.1.1 }
  shown true (Custom p) s by = record { schedule = s; valid = by.0; in_range = by.1.0; sums = by.1.1 }
  shown false (Standard collective) s by = record { schedule = s; valid = by.0; in_range = by.1.0; solves = by.1.1 }
  shown false (Custom p) s by = record { schedule = s; valid = by.0; in_range = by.1.0; solves = by.1.1 }

  sized : (adds : Bool) (spec : Spec) → Achievable adds (asked spec) x → (s : ScheduleValue) × Sized adds spec s
  sized true (Standard collective) some = (some.schedule, (some.valid, (some.in_range, some.sums)))
  sized true (Custom p) some = (some.schedule, (some.valid, (some.in_range, some.sums)))
  sized false (Standard collective) some = (some.schedule, (some.valid, (some.in_range, some.solves)))
  sized false (Custom p) some = (some.schedule, (some.valid, (some.in_range, some.solves)))

pub achieved : (q : QuestionValue) (x : Candidate) → IsSolvable q x → IsAchievable q x
achieved q x some = shown q.topology q.limits x (adds_up q.spec) q.spec some.0 (some.1.valid, (some.1.in_range, some.1.achieves))

pub solvable_by_one : (q : QuestionValue) (x : Candidate) → IsAchievable q x → IsSolvable q x
solvable_by_one q x some = grind (arith, sized)
