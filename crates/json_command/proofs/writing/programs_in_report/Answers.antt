use Rattle.std.proofs.Common.{◌≡◌, Some, ◌∙◌, ap, ap₂}
use Rattle.json_values.specs.Json.{printed}
use Rattle.json_rules.specs.ProgramsJson.{programs_json}
use Rattle.run_rules.{specs.Tasks.json_programs_in, proofs.Answered.written_as}
use Rattle.json_command.proofs.Exchanged.{programs_from}
use Rattle.json_command.proofs.writing.programs_in_report.Goals as goal

pub returns : goal.returns
returns c =
    let r = c.args.report.now in
    let asked = c.args.asked in
    let names : c.names.result.now ≡ r.topology.names = cc in
    written_as (json_programs_in r (Some asked)) _ _ (ap (programs_from r asked) c.in-Some.ensures.some) (c.in_ok-text.ensures ∙ ap₂ (λ ns ps. printed (programs_json asked.point ns ps)) names c.in_ok-programs.ensures.programs)
