use Rattle.std.proofs.{Common.{◌≡◌, ◌∙◌, [], ◌∷◌, ◌++◌, arith, length, refl, rules}, lemmas.Map.Text.text_keys}
use Rattle.memory_files.proofs.Pushed.{bytes_pushed, past_end}
use Rattle.memory_files.proofs.memory_files.MemoryFiles.add.Goals as goal

pub invariant_of-self-2 : goal.invariant_of-self-2
invariant_of-self-2 c = record { numbered = λ path n has. grind (arith, text_keys) }

pub returns-clause-made : goal.returns-clause-made
returns-clause-made c = λ missing.
    let pushed : c.push.new.self.items ≡ c.args.self.now.files.items ++ c.new.result ∷ [] = search rules in
    let end : c.len-number.result ≡ length c.args.self.now.files.items = search rules in
    record {
      fresh = λ other found. grind (arith, text_keys);
      here = grind (arith, text_keys);
      empty = rw (pushed, end) (bytes_pushed c.args.self.now.files.items c.new.result _ c.new.ensures.items ∙ past_end c.args.self.now.files.items);
      names = λ other apart. grind (arith, text_keys);
      bytes = λ other apart. rw pushed (bytes_pushed c.args.self.now.files.items c.new.result other c.new.ensures.items);
      odd = refl;
    }
