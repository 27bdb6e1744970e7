use Rattle.std.proofs.{Common.{arith, rules}, lemmas.Grind.common_steps}
use Rattle.outer_ports.proofs.Pieces.{given}
use Rattle.outer_ports.proofs.memory_source.MemorySourceSource.read.Goals as goal

pub returns-then-fails : goal.returns-then-fails
returns-then-fails c = record { fails = grind (arith, common_steps); count = tt; taken = grind (arith, common_steps); cause = grind (arith, common_steps); ok = tt; err = grind (arith, common_steps) }

pub returns : goal.returns
returns c = record { fails = grind (arith, common_steps); count = grind (arith, common_steps); taken = grind (arith, given, common_steps); cause = search rules; ok = grind (arith, common_steps); err = tt }
