use Rattle.std.proofs.Common.{◌∙◌, ap}
use Rattle.outer_ports.proofs.Folders.{all_but_closed, all_held, all_read, none_read}
use Rattle.outer_ports.proofs.folder.Folder.give_up.Goals as goal

pub invariant_of-self : goal.invariant_of-self
invariant_of-self g c = let C = g.C.FileCalls in record {
  held = λ told. all_held C.number _ _ _ _ (ap (λ disk. disk.number) (c.close_held.ensures.stays told))
      (all_but_closed C.number _ _ _ _ _ c.replace.ensures.new c.replace.ensures.others (c.args.self.now.held (c.close_held.ensures.told told)));
  read = λ told. all_read C.number _ _ _ _ (ap (λ disk. disk.number) (c.close_held.ensures.stays told)) (c.args.self.now.read (c.close_held.ensures.told told));
}

pub invariant_of-self-then-is_read : goal.invariant_of-self-then-is_read
invariant_of-self-then-is_read g c = let C = g.C.FileCalls in record {
  held = λ told. let before = c.close_held-then-is_read.ensures.told told in all_held C.number _ _ _ _ (ap (λ disk. disk.number) (c.close_held-then-is_read.ensures.stays told ∙ c.close_held.ensures.stays before))
      (all_but_closed C.number _ _ _ _ _ c.replace.ensures.new c.replace.ensures.others (c.args.self.now.held (c.close_held.ensures.told before)));
  read = λ told. none_read C.number _ _ _ c.take.ensures.after;
}
