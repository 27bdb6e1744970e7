use Rattle.std.proofs.{Common.{arith, refl}, lemmas.Grind.common_steps}
use Rattle.outer_ports.proofs.file_map.FileMap.set.Goals as goal

pub returns-in-Ok : goal.returns-in-Ok
returns-in-Ok c = record { set = grind (arith, common_steps); others = grind (arith, common_steps); fault = tt }

pub returns : goal.returns
returns c = record { set = tt; others = λ _ _. rw c.in-Err.ensures.err refl; fault = λ _. rw c.in-Err.ensures.err refl }
