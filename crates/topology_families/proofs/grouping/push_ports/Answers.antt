use Rattle.std.proofs.Common.{sym, subst}
use Rattle.schedule.specs.Links.{IsGroup}
use Rattle.topology_families.specs.Family.{one_wide}
use Rattle.topology_families.proofs.grouping.push_ports.Goals as goal

pub new-requires : goal.new-requires
new-requires c = subst (λ links. IsGroup (one_wide links)) (sym c.in_ok-port.ensures) (c.requires c.loop-node.node c.loop-node-test.true)
