use Rattle.std.proofs.{Common.{arith, refl, rules}, lemmas.Map.Text.text_keys}
use Rattle.memory_files.proofs.memory_files.MemoryFilesFileCalls.rename.Goals as goal

pub invariant_of-self-2 : goal.invariant_of-self-2
invariant_of-self-2 c = record { numbered = λ path n has. grind (arith, text_keys) }

pub returns-clause-renamed : goal.returns-clause-renamed
returns-clause-renamed c = λ told plain apart. record {
  here = grind (arith, text_keys);
  gone = grind (arith, text_keys);
  names = λ other one two. grind (arith, text_keys);
  bytes = search rules;
  odd = λ other one two. refl;
}
