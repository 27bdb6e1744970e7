use Rattle.std.proofs.Common.{◌≡◌, ◌+◌, ◌≤◌, length, sym, ap, ◌∙◌, subst, arith, sum}
use Rattle.schedule.specs.{Sends.{ScheduleValue, IsSchedule}, JoinedRuns.AllSummed}
use Rattle.collective_spec.specs.Collectives.{chunks_of}
use Rattle.collective_spec.specs.declared.kind.Kind.TheVariants as kind
use Rattle.candidate_order.specs.{declared.candidate.Candidate.Candidate, Frontiers.PointValue}
use Rattle.candidate_order.specs.declared.mark.Mark.TheVariants as mark
use Rattle.allreduce_join.{specs.Joins.{IsJoinable, join_of, one_after}, proofs.{Bounded.rounds_bounded, Frontiers.points_join}}
use Rattle.allreduce_join.proofs.join.join_points.Goals as goal

abbrev both_costs : Candidate → Candidate → Candidate
both_costs a b = record { s = a.s + b.s; r = a.r + b.r; c = a.c }

-- what is made of the parts of two points is their join
join_made : (a b : PointValue) (x y costs : Candidate) (p q s : ScheduleValue) → IsJoinable a → costs ≡ both_costs x y → x ≡ a.candidate → y ≡ b.candidate → p ≡ a.schedule → q ≡ b.schedule → s ≡ one_after (length p.rounds) p q → record { candidate = costs; schedule = s; mark = mark.Joined x.s } ≡ join_of a b
join_made a b x y costs p q s sized costs_are x_is y_is p_is q_is is = grind arith

pub both_costs-requires-clause-rounds : goal.both_costs-requires-clause-rounds
both_costs-requires-clause-rounds c =
    let p : ScheduleValue = c.schedule.result.now in
    let q : ScheduleValue = c.schedule-2.result.now in
    let few : sum p.rounds + sum q.rounds ≤ 144 = rounds_bounded p q (length p.rounds) (subst IsSchedule c.in_ok-schedule.ensures.joined c.in_ok-schedule.ensures.limits) in
    let first : sum p.rounds ≡ c.candidate-first.result.r = ap (λ (s : ScheduleValue). sum s.rounds) c.schedule.ensures ∙ (c.requires.reduce.rounds ∙ sym (ap (λ (x : Candidate). x.r) c.candidate-first.ensures)) in
    let second : sum q.rounds ≡ c.candidate-second.result.r = ap (λ (s : ScheduleValue). sum s.rounds) c.schedule-2.ensures ∙ (c.requires.gather.rounds ∙ sym (ap (λ (x : Candidate). x.r) c.candidate-second.ensures)) in
    omega (arith, few, first, second)

pub returns-clause-exact : goal.returns-clause-exact
returns-clause-exact c =
    c.new.ensures ∙ join_made c.args.reduce.now c.args.gather.now c.candidate-first.result c.candidate-second.result c.both_costs.result c.schedule.result.now c.schedule-2.result.now c.in_ok-schedule.schedule c.requires.reduce c.both_costs.ensures c.candidate-first.ensures c.candidate-second.ensures c.schedule.ensures c.schedule-2.ensures c.in_ok-schedule.ensures.joined

pub returns-clause-summed : goal.returns-clause-summed
returns-clause-summed c root t limits some adds copies tight =
    let a : PointValue = c.args.reduce.now in
    let b : PointValue = c.args.gather.now in
    let is : c.new.result ≡ join_of a b = c.new.ensures ∙ join_made a b c.candidate-first.result c.candidate-second.result c.both_costs.result c.schedule.result.now c.schedule-2.result.now c.in_ok-schedule.schedule c.requires.reduce c.both_costs.ensures c.candidate-first.ensures c.candidate-second.ensures c.schedule.ensures c.schedule-2.ensures c.in_ok-schedule.ensures.joined in
    subst (λ (p : PointValue). AllSummed t (chunks_of kind.Allreduce t.nodes p.candidate.c) p.schedule a.candidate.s) (sym is) (points_join root t limits a b some adds copies tight c.requires.same_count)
