use Rattle.std.proofs.{Common.{arith, refl, rules}, lemmas.Map.Text.text_keys}
use Rattle.memory_files.proofs.memory_files.MemoryFilesFileCalls.remove_file.Goals as goal

pub invariant_of-self : goal.invariant_of-self
invariant_of-self c = record { numbered = λ path n has. grind (arith, text_keys) }

pub returns-in-Some-clause-removed : goal.returns-in-Some-clause-removed
returns-in-Some-clause-removed c = λ told. record {
  gone = grind (arith, text_keys);
  names = λ other apart. grind (arith, text_keys);
  bytes = search rules;
  odd = λ other apart. refl;
}
