use Rattle.outer_ports.proofs.Folders.{all_held, all_read, parts_stay}
use Rattle.outer_ports.proofs.folder.Folder.make_folder.Goals as goal

pub invariant_of-self : goal.invariant_of-self
invariant_of-self g c = let C = g.C.FileCalls in record {
  held = λ told. all_held C.number _ _ _ _ (c.make_folder.ensures.number told) (c.args.self.now.held (c.make_folder.ensures.told told));
  read = λ told. all_read C.number _ _ _ _ (c.make_folder.ensures.number told) (c.args.self.now.read (c.make_folder.ensures.told told));
}

pub invariant_of-self-then-not-self : goal.invariant_of-self-then-not-self
invariant_of-self-then-not-self g c = let C = g.C.FileCalls in record {
  held = λ told. all_held C.number _ _ _ _ (c.make_folder.ensures.number told) (c.args.self.now.held (c.make_folder.ensures.told told));
  read = λ told. all_read C.number _ _ _ _ (c.make_folder.ensures.number told) (c.args.self.now.read (c.make_folder.ensures.told told));
}

pub returns-in_ok-make_folder-clause-stay : goal.returns-in_ok-make_folder-clause-stay
returns-in_ok-make_folder-clause-stay g c = λ told. parts_stay (g.C.FileCalls.disk c.args.self.now.calls) (g.C.FileCalls.disk c.make_folder.new.calls) _ (c.make_folder.ensures.number told) (c.make_folder.ensures.bytes told)

pub returns-in_err-make_folder-clause-stay : goal.returns-in_err-make_folder-clause-stay
returns-in_err-make_folder-clause-stay g c = λ told. parts_stay (g.C.FileCalls.disk c.args.self.now.calls) (g.C.FileCalls.disk c.make_folder.new.calls) _ (c.make_folder.ensures.number told) (c.make_folder.ensures.bytes told)
