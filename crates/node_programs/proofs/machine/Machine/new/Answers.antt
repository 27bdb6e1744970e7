use Rattle.std.proofs.Common.{arith, ◌≡◌, ◌∙◌, ap}
use Rattle.node_programs.{specs.Queues.new_queues, proofs.{Firing.state_of, Founding.{machine_new, state_new}}}
use Rattle.node_programs.proofs.machine.Machine.new.Goals as goal

pub invariant_of-result : goal.invariant_of-result
invariant_of-result c =
    let queues : c.in_ok-queues.queues.items ≡ new_queues c.args.start.nodes c.args.programs = c.in_ok-queues.ensures ∙ ap (λ n. new_queues n c.args.programs) c.nodes.ensures.nodes in
    rw queues (machine_new c.args.start.chunks c.args.start.nodes c.args.programs c.requires.nodes c.requires.in_range)

pub returns : goal.returns
returns c = grind (arith, state_of, state_new)
