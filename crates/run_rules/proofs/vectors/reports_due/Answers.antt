use Rattle.std.{proofs.Common.refl, specs.Fmt.digits}
use Rattle.run_rules.specs.{Audits.audited, Tasks.due}
use Rattle.command_words.specs.Words.{command_of}
use Rattle.report_form.specs.{Reading.{report_of, body_of, frontier_at}, Spelling.report_text, Points.{schedule_at, frontier_point_at, joined_point_at}}
use Rattle.topology_text.specs.Reading.{pattern_at}
use Rattle.run_rules.proofs.vectors.reports_due.Goals as goal

pub returns : goal.returns
unfolding due command_of report_of body_of report_text pattern_at schedule_at frontier_point_at joined_point_at frontier_at digits audited
returns c = record { text = refl; point = refl; denied = refl; line = refl }
