use Rattle.std.proofs.Common.{◌≡◌, ◌∙◌, length, ap, arith}
use Rattle.report_form.specs.Spelling.{report_text}
use Rattle.frontier_report.proofs.Onward.{lines_of_short}
use Rattle.trial_command.proofs.Tried.{only_memory}
use Rattle.trial_command.proofs.trial.read_back.Goals as goal

pub read_report-requires : goal.read_report-requires
read_report-requires c = lines_of_short c.deref.result.now (omega (arith, ap length c.deref.ensures.value))

pub returns-in-Ok : goal.returns-in-Ok
returns-in-Ok c =
    let spelled : c.deref.result.now ≡ report_text c.args.report.now = c.deref.ensures.value ∙ c.in_ok-text.ensures in
    let same = c.in-Ok.ensures.only c.args.report.now c.requires spelled in
    cc

pub unreachable-requires : goal.unreachable-requires
unreachable-requires c =
    let spelled : c.deref.result.now ≡ report_text c.args.report.now = c.deref.ensures.value ∙ c.in_ok-text.ensures in
    c.in_default.not-OutOfMemory (only_memory c.in-Err.fault c.args.report.now (c.in-Err.ensures.only c.args.report.now c.requires spelled))
