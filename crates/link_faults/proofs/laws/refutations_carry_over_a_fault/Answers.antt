use Rattle.link_faults.proofs.Carried.{carried}
use Rattle.link_faults.proofs.laws.refutations_carry_over_a_fault.Goals as goal

pub returns : goal.returns
returns c = record {
  solvable = carried;
  refuted = λ q g w a b less few carries refuted solvable. refuted (carried q g w a b less few carries solvable);
}
