use Rattle.std.proofs.Common.{◌∙◌, codes}
use Rattle.text_lines.proofs.Repeated.{lines_are_parts}
use Rattle.report_form.specs.Points.{send_line}
use Rattle.report_lines.specs.{Asking.asks, Heads.head_value}
use Rattle.frontier_report.{specs.inner.Wide.chunks_of, proofs.Scheduled.schedule_is}
use Rattle.frontier_report.proofs.points.Points.schedule_part.Goals as goal

pub new-schedule-requires : goal.new-schedule-requires
new-schedule-requires c =
    let keys = c.args.self.now.names.now.keys in
    let question = c.args.self.now.question.now in
    schedule_is keys (asks question) (head_value c.args.head) c.args.lines.now.place c.rounds_part.new.lines.place c.repeated.new.lines.place c.in_ok-rounds.rounds.items c.in_ok-sends.sends.items c.args.self.now.named c.requires.some c.requires.steps c.in_ok-rounds.ensures.read
    (lines_are_parts (codes "send ") (send_line keys (chunks_of question c.args.head.candidate) c.args.head.candidate.s) c.rounds_part.new.lines.place ∙ c.in_ok-sends.ensures.read)
