-- The checks of a point's schedule and of its mark (Cai et al., PPoPP 2021, Pareto-optimal schedules; marks are this project's own).
use Rattle.std.specs.{Prelude.{◌||◌, not, Bool, if◌then◌else◌}, List.list_all}
use Rattle.schedule.specs.Judging.{verdict_of}
use Rattle.inversion.specs.{Judging.sum_verdict_of, Saying.{says_solves, says_sums}}
use Rattle.collective_spec.specs.Collectives.{spec_instance, spec_demand, adds_up}
use Rattle.candidate_order.specs.{declared.candidate.Candidate.Candidate, Frontiers.{QuestionValue, PointValue, FrontierValue}}
use Rattle.report_form.specs.Tests.{is_better}
use Rattle.frontier_audit.specs.Candidates.{is_listed, candidates_within}

-- the schedule solves the collective's instance, or for a reduction sums what it demands
abbrev pub is_solution : QuestionValue → PointValue → Bool
is_solution q p =
    let i = spec_instance q.spec q.topology.nodes p.candidate.c in
    let demand = spec_demand q.spec q.topology.nodes p.candidate.c in
    if adds_up q.spec then says_sums (sum_verdict_of q.topology demand p.schedule) else says_solves (verdict_of q.topology i.pre i.post p.schedule)

-- every better candidate within the limits is refuted
abbrev pub is_optimal : QuestionValue → FrontierValue → Candidate → Bool
is_optimal q f x = list_all (λ y. not (is_better y x) || is_listed f.refuted y) (candidates_within q)
