use Rattle.std.proofs.{Common.arith, lemmas.Grind.common_steps}
use Rattle.outer_ports.proofs.Buffers.{read_longer}
use Rattle.outer_ports.proofs.memory_shelf.MemoryShelfShelf.read_at.Goals as goal

pub returns-clause-read : goal.returns-clause-read
returns-clause-read c = grind (arith, read_longer, common_steps)
