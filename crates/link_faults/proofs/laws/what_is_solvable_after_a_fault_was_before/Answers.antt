use Rattle.link_faults.proofs.Carried.{solvable_before, summed_before}
use Rattle.link_faults.proofs.laws.what_is_solvable_after_a_fault_was_before.Goals as goal

pub returns : goal.returns
returns c = record { solvable = solvable_before; summed = summed_before }
