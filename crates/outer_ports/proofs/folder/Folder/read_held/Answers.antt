use Rattle.std.proofs.Common.{arith, ◌∙◌, ap, rules}
use Rattle.outer_ports.proofs.{Folders.{all_held, all_read, none_read, read_file, same_bytes}, OpenKinds.some_is_none}
use Rattle.outer_ports.proofs.folder.Folder.read_held.Goals as goal

pub invariant_of-self-then-matches : goal.invariant_of-self-then-matches
invariant_of-self-then-matches g c = let C = g.C.FileCalls in record {
  held = λ told. let before = c.close_held.ensures.told told in
      all_held C.number _ _ _ _ (ap (λ disk. disk.number) (c.close_held.ensures.stays told ∙ c.read_some-answer.ensures.stays before)) (c.args.self.now.held (c.read_some-answer.ensures.told before));
  read = λ told. none_read C.number _ _ _ c.take.ensures.after;
}

pub invariant_of-self-else-matches : goal.invariant_of-self-else-matches
invariant_of-self-else-matches g c = let C = g.C.FileCalls in record {
  held = λ told. all_held C.number _ _ _ _ (ap (λ disk. disk.number) (c.read_some-answer.ensures.stays told)) (c.args.self.now.held (c.read_some-answer.ensures.told told));
  read = λ told. all_read C.number _ _ _ _ (ap (λ disk. disk.number) (c.read_some-answer.ensures.stays told)) (c.args.self.now.read (c.read_some-answer.ensures.told told));
}

pub returns-in_ok-close_held-clause-there : goal.returns-in_ok-close_held-clause-there
returns-in_ok-close_held-clause-there g c = λ told none. some_is_none _ _ none (read_file g.C.FileCalls.number _ _ _ c.args.name c.in-Some.field-0-0 c.in-Some.file (search rules) c.requires.held (c.args.self.now.read (c.read_some-answer.ensures.told (c.close_held.ensures.told told))))

pub returns-in_ok-close_held-clause-read : goal.returns-in_ok-close_held-clause-read
returns-in_ok-close_held-clause-read g c = grind (arith, same_bytes, read_file)

pub returns-else-matches-clause-there : goal.returns-else-matches-clause-there
returns-else-matches-clause-there g c = λ told none. some_is_none _ _ none (read_file g.C.FileCalls.number _ _ _ c.args.name c.in-Some.field-0-0 c.in-Some.file (search rules) c.requires.held (c.args.self.now.read (c.read_some-answer.ensures.told told)))

pub returns-else-matches-clause-read : goal.returns-else-matches-clause-read
returns-else-matches-clause-read g c = λ told bytes has.
    same_bytes _ _ bytes _ _ _ (read_file g.C.FileCalls.number _ _ _ c.args.name c.in-Some.field-0-0 c.in-Some.file (search rules) c.requires.held (c.args.self.now.read (c.read_some-answer.ensures.told told))) has (c.read_some-answer.ensures.read told)
