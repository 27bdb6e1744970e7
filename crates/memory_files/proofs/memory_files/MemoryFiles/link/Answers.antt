use Rattle.std.proofs.{Common.arith, lemmas.Map.Text.text_keys}
use Rattle.memory_files.proofs.memory_files.MemoryFiles.link.Goals as goal

pub invariant_of-self : goal.invariant_of-self
invariant_of-self c = record { numbered = λ path n has. grind (arith, text_keys) }
