use Rattle.std.{proofs.Common.{arith, ap}, specs.Prelude.⊤}
use Rattle.outer_ports.proofs.{Folders.{held_spared, held_stays, read_spared, read_stays, written_here, written_others}, OpenKinds.held_before}
use Rattle.outer_ports.proofs.folder.Folder.append.Goals as goal

pub invariant_of-self-in-Ok-1 : goal.invariant_of-self-in-Ok-1
invariant_of-self-in-Ok-1 g c = record {
  held = λ told name file holds. held_stays _ _ _ _ _ (c.in-Ok.ensures.written told).number (c.args.self.now.held (c.append_some.ensures.told told) name file holds);
  read = λ told name file reads. read_stays _ _ _ _ _ (c.in-Ok.ensures.written told).number (c.args.self.now.read (c.append_some.ensures.told told) name file reads);
}

pub returns-in-Ok-clause-appended : goal.returns-in-Ok-clause-appended
returns-in-Ok-clause-appended g c = grind (arith, written_here, written_others)

pub invariant_of-self-in-Err : goal.invariant_of-self-in-Err
invariant_of-self-in-Err g c = record {
  held = λ told name file holds. let closed = c.close_held.ensures.told told in let spares = c.in-Err.ensures.fault closed in held_stays _ _ _ _ _ (ap (λ disk. disk.number) (c.close_held.ensures.stays told))
      (held_spared _ _ _ _ _ (λ _. ⊤) spares tt (c.args.self.now.held (c.append_some.ensures.told closed) name file (held_before _ _ _ c.replace.ensures.new c.replace.ensures.others name file holds)));
  read = λ told name file reads. let closed = c.close_held.ensures.told told in
      let spares = c.in-Err.ensures.fault closed in read_stays _ _ _ _ _ (ap (λ disk. disk.number) (c.close_held.ensures.stays told)) (read_spared _ _ _ _ _ (λ _. ⊤) spares tt (c.args.self.now.read (c.append_some.ensures.told closed) name file reads));
}
