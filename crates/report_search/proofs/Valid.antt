-- A frontier that was found keeps the rules of reports.
use Rattle.std.proofs.{Common.{◌≡◌, Bool, true, false, List, length, sum}, lemmas.List.Elements.All-weaker}
use Rattle.schedule.specs.Sends.{ScheduleValue}
use Rattle.collective_spec.specs.Collectives.{adds_up}
use Rattle.candidate_order.specs.{declared.candidate.Candidate.Candidate, Frontiers.{QuestionValue, FrontierValue, PointValue, Achieves, IsPoint as IsRightPoint}}
use Rattle.report_form.specs.Reports.{IsFrontier, IsPrintedPoint}
use Rattle.engine_search.specs.Found.{IsFound}

steps_of : (b : Bool) (q : QuestionValue) (x : Candidate) (s : ScheduleValue) → Achieves b q x s → length s.rounds ≡ x.s
steps_of true q x s achieves = achieves.steps_are
steps_of false q x s achieves = achieves.steps_are

rounds_of : (b : Bool) (q : QuestionValue) (x : Candidate) (s : ScheduleValue) → Achieves b q x s → sum s.rounds ≡ x.r
rounds_of true q x s achieves = achieves.rounds_are
rounds_of false q x s achieves = achieves.rounds_are

valid_point : (q : QuestionValue) (refuted : List Candidate) (p : PointValue) → IsRightPoint q refuted p → IsPrintedPoint q p
valid_point q refuted p right = record {
  has = record {
    schedule = right.solves.valid;
    steps = steps_of (adds_up q.spec) q p.candidate p.schedule right.solves.achieves;
    rounds = rounds_of (adds_up q.spec) q p.candidate p.schedule right.solves.achieves;
    in_range = right.solves.in_range;
  };
  within = right.within;
  mark = right.or_open;
}

pub valid_frontier : (q : QuestionValue) (f : FrontierValue) → IsFound q f → IsFrontier q f
valid_frontier q f found = record {
  points = All-weaker (IsRightPoint q f.refuted) (IsPrintedPoint q) (valid_point q f.refuted) f.points found.right.points;
  refuted = found.within;
  unknown = found.right.unknown;
  points_ascend = found.searched.points_ascend;
  refuted_ascend = found.searched.refuted_ascend;
  unknown_ascend = found.searched.unknown_ascend;
}
