use Rattle.std.proofs.Common.{◌∙◌, ap, rules}
use Rattle.outer_ports.proofs.Folders.{all_held, all_read, none_read, one_read}
use Rattle.outer_ports.proofs.folder.Folder.start_reading.Goals as goal

pub invariant_of-self : goal.invariant_of-self
invariant_of-self g c = let C = g.C.FileCalls in record { held = λ told. all_held C.number _ _ _ _ (ap (λ disk. disk.number) (c.open_to_read.ensures.stays told)) (c.args.self.now.held (c.open_to_read.ensures.told told)); read = λ told. none_read C.number _ _ _ c.take-held.ensures.after }

pub invariant_of-self-in-None : goal.invariant_of-self-in-None
invariant_of-self-in-None g c = let C = g.C.FileCalls in record {
  held = λ told. all_held C.number _ _ _ _ (ap (λ disk. disk.number) (c.open_to_read.ensures.stays told)) (c.args.self.now.held (c.open_to_read.ensures.told told));
  read = λ told. none_read C.number _ _ _ c.take-held.ensures.after;
}

pub invariant_of-self-in-Some : goal.invariant_of-self-in-Some
invariant_of-self-in-Some g c = let C = g.C.FileCalls in record {
  held = λ told. let before = c.close_held.ensures.told told in
      all_held C.number _ _ _ _ (ap (λ disk. disk.number) (c.close_held.ensures.stays told ∙ c.open_to_read.ensures.stays before)) (c.args.self.now.held (c.open_to_read.ensures.told before));
  read = λ told. let before = c.close_held.ensures.told told in
      all_read C.number _ _ _ _ (ap (λ disk. disk.number) (c.close_held.ensures.stays told ∙ c.open_to_read.ensures.stays before)) (one_read C.number (C.disk c.args.self.now.calls) _ _ c.args.name c.in-Some.file c.replace-left.ensures.after
      (record { range = c.path_of.ensures.range; here = search rules }));
}
