use Rattle.std.proofs.Common.{arith, ◌∙◌, sym}
use Rattle.allreduce_join.proofs.Judged.{fault_clash, fault_misfit, fault_none}
use Rattle.allreduce_join.proofs.judge.first_fault.Goals as goal

pub returns-in-Some-clause-fault : goal.returns-in-Some-clause-fault
returns-in-Some-clause-fault c = λ last due. fault_misfit c.args.topology.now c.args.chunks c.args.schedule.now c.args.adding last due c.in-Some.misfit c.in-Some.ensures.misfit

pub returns-in-Some-2-clause-fault : goal.returns-in-Some-2-clause-fault
returns-in-Some-2-clause-fault c = grind (arith, fault_clash)

pub returns-clause-fault : goal.returns-clause-fault
returns-clause-fault c = λ last due.
    fault_none c.args.topology.now c.args.chunks c.args.schedule.now c.args.adding last due c.nodes-nodes.result c.nodes-nodes.ensures.nodes c.in_default.ensures.misfit (sym c.in_default-2.is ∙ c.in_ok-step.ensures)
