use Rattle.link_faults.proofs.Sound.{narrowed_topology}
use Rattle.link_faults.proofs.laws.a_fault_leaves_a_topology.Goals as goal

pub returns : goal.returns
returns c = narrowed_topology
