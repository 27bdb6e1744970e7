use Rattle.std.proofs.Common.{arith}
use Rattle.link_faults.proofs.Sizes.{no_larger, still_small}
use Rattle.link_faults.proofs.laws.a_fault_makes_no_search_larger.Goals as goal

pub returns : goal.returns
returns c = grind (arith, no_larger, still_small)
