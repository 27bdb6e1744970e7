-- The rounds and the sends that were read are a schedule.
use Rattle.std.proofs.Common.{◌≡◌, ℕ, ◌≤◌, List, length, Result, Ok, ap, ◌∙◌, codes}
use Rattle.text_lines.specs.{Text.Place, Check.{◌>>=◌, line_part}, Repeated.lines_at}
use Rattle.schedule.specs.{declared.hop.Hop.Hop, Sends.IsSchedule}
use Rattle.collective_spec.specs.Collectives.{chunks_in}
use Rattle.candidate_order.specs.Frontiers.{QuestionValue, PointValue}
use Rattle.report_form.{specs.{declared.fault.ReportCode.ReportCode, Points.{HeadValue, rounds_line, send_line, schedule_at}}, proofs.PointsTaken.{point_of, schedule_take}}

abbrev Scheduled : Type 0
Scheduled = Result (PointValue × Place) (ReportCode × ℕ)

abbrev pointed : HeadValue → List ℕ → List Hop → Place → Scheduled
pointed head rounds sends p = Ok (point_of head rounds sends, p)

pub schedule_is : (names : List (List ℕ)) (q : QuestionValue) (head : HeadValue) (p p1 p2 : Place) (rounds : List ℕ) (sends : List Hop) → length names ≡ q.topology.nodes → 1 ≤ head.candidate.s → head.candidate.s ≤ 16 → line_part (rounds_line head.candidate) p ≡ Ok (rounds, p1) → lines_at (codes "send ") (send_line names (chunks_in q.spec q.topology.nodes head.candidate.c) head.candidate.s) p1 ≡ Ok (sends, p2) → IsSchedule (record { rounds = rounds; sends = sends })
unfolding schedule_at
schedule_is names q head p p1 p2 rounds sends as_many some few e1 e2 =
    let check = send_line names (chunks_in q.spec q.topology.nodes head.candidate.c) head.candidate.s in
    let made : schedule_at names q head p ≡ pointed head rounds sends p2 =
    ap (λ r. r >>= (λ y. lines_at (codes "send ") check y.1 >>= (λ z. pointed head y.0 z.0 z.1))) e1 ∙ ap (λ r. r >>= (λ z. pointed head rounds z.0 z.1)) e2 in
    ((schedule_take names q as_many head p (point_of head rounds sends, p2) made).has some few).schedule
