use Rattle.std.proofs.Common.{ap, refl, ◌∙◌}
use Rattle.json_values.specs.{declared.fault.JsonCode.TheVariants.OutOfMemory, Answer.{json_number, topology_of_json}}
use Rattle.command_words.specs.declared.command.JsonWhat.TheVariants as what
use Rattle.run_rules.{specs.{declared.status.Status.TheVariants.BadJson, Tasks.unjson_asked}, proofs.Answered.written_as}
use Rattle.json_command.proofs.Exchanged.{refused_unless, topology_read_due, topology_same}
use Rattle.json_command.proofs.reading.topology_read.Goals as goal

pub returns-in_ok-text-in-Ok : goal.returns-in_ok-text-in-Ok
returns-in_ok-text-in-Ok c = written_as (unjson_asked what.Topology c.args.bytes.now) _ _ (ap topology_read_due (topology_same c.args.bytes.now ∙ c.in-Ok.ensures.exact)) c.in_ok-text-in-Ok.ensures.spelled

pub returns-in-Err : goal.returns-in-Err
returns-in-Err c =
    refused_unless (unjson_asked what.Topology c.args.bytes.now) (topology_of_json c.args.bytes.now) OutOfMemory c.in-Err.fault.code c.in-Err.fault.place topology_read_due BadJson json_number c.bad_json.result (ap topology_read_due (topology_same c.args.bytes.now)) refl c.in-Err.ensures.exact c.bad_json.ensures.code c.bad_json.ensures.says
