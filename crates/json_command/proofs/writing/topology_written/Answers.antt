use Rattle.std.proofs.Common.{None, ap, refl}
use Rattle.topology_text.specs.{declared.fault.TopologyCode.TheVariants.OutOfMemory, Answer.topology_number, Reading.topology_of}
use Rattle.command_words.specs.declared.command.JsonWhat.TheVariants as what
use Rattle.run_rules.{specs.{declared.status.Status.TheVariants.BadTopology, Tasks.json_asked}, proofs.Answered.written_as}
use Rattle.json_command.proofs.Exchanged.{refused_unless, topology_due}
use Rattle.json_command.proofs.writing.topology_written.Goals as goal

pub returns-in_ok-text-in-Ok : goal.returns-in_ok-text-in-Ok
returns-in_ok-text-in-Ok c = written_as (json_asked what.Topology None c.args.bytes.now) _ _ (ap topology_due c.in-Ok.ensures.exact) c.in_ok-text-in-Ok.ensures.printed

pub returns-in-Err : goal.returns-in-Err
returns-in-Err c =
    refused_unless (json_asked what.Topology None c.args.bytes.now) (topology_of c.args.bytes.now) OutOfMemory c.in-Err.fault.code c.in-Err.fault.line topology_due BadTopology topology_number c.bad_topology.result refl refl c.in-Err.ensures.exact c.bad_topology.ensures.code c.bad_topology.ensures.says
