use Rattle.std.proofs.{lemmas.{Bool.Decides.nat_tests, Grind.common_steps}, Common.{arith, ◌∙◌, ap, rules, string_bytes}}
use Rattle.outer_ports.specs.{Folders.{files_in_folder, fresh_in, path_in}, Shelf.FilesStay, inner.Keeping.{IsNeither, IsOther, IsOwn, Spares}}
use Rattle.outer_ports.proofs.{Entries.on_err, Folders.{all_held, all_read, begun_held, begun_others, begun_read, fault_files, fault_held, fault_read, file_is}}
use Rattle.outer_ports.proofs.folder.Folder.begin.Goals as goal

pub invariant_of-self : goal.invariant_of-self
invariant_of-self g c = let C = g.C.FileCalls in let folder = string_bytes c.prepare.new.self.path in let before = C.disk c.prepare.new.self.calls in let now = C.disk c.make_anew.new.calls in record {
  held = λ told.
      let spares : Spares (IsOther (fresh_in folder)) before now = search rules in fault_held C.number before now folder _ spares (c.prepare.new.self.held (c.make_anew.ensures.told told));
  read = λ told. let spares : Spares (IsOther (fresh_in folder)) before now = search rules in
      fault_read C.number before now folder _ spares (c.prepare.new.self.read (c.make_anew.ensures.told told));
}

pub returns-in_err-file-clause-begun : goal.returns-in_err-file-clause-begun
returns-in_err-file-clause-begun g c = λ told. let C = g.C.FileCalls in let folder = string_bytes c.args.self.now.path in let before = C.disk c.prepare.new.self.calls in let now = C.disk c.make_anew.new.calls in let spares : Spares (IsOther (fresh_in folder)) before now = search rules in
    let stay : FilesStay (files_in_folder (C.disk c.args.self.now.calls) folder) (files_in_folder now folder) = λ name. fault_files before now folder spares name ∙ c.prepare.ensures.stay (c.make_anew.ensures.told told) name in record {
      begun = search rules;
      others = λ other apart. stay other;
      fault = on_err _ (λ failed. stay);
    }

pub invariant_of-self-2 : goal.invariant_of-self-2
invariant_of-self-2 g c = let C = g.C.FileCalls in let folder = string_bytes c.prepare.new.self.path in let before = C.disk c.prepare.new.self.calls in let now = C.disk c.make_anew.new.calls in record {
  held = λ told. let made = c.close_held.ensures.told told in
      let spares : Spares (IsNeither (fresh_in folder) (path_in folder c.args.name)) before now = search rules in let own : IsOwn now (path_in folder c.args.name) (C.number c.in_ok-file.file) = search rules in
      all_held C.number now _ folder _ (ap (λ disk. disk.number) (c.close_held.ensures.stays told))
      (begun_held C.number before now folder c.args.name c.in_ok-file.file c.prepare.new.self.begun c.replace-left.new.self c.make_anew.ensures.range c.replace-left.ensures.new c.replace-left.ensures.others own spares (c.prepare.new.self.held (c.make_anew.ensures.told made)));
  read = λ told.
      let made = c.close_held.ensures.told told in let spares : Spares (IsNeither (fresh_in folder) (path_in folder c.args.name)) before now = search rules in all_read C.number now _ folder _ (ap (λ disk. disk.number) (c.close_held.ensures.stays told))
      (begun_read C.number before now folder c.args.name c.prepare.new.self.reading c.make_anew.ensures.range c.in_ok-prepare.ensures.unread spares (c.prepare.new.self.read (c.make_anew.ensures.told made)));
}

pub returns-clause-begun : goal.returns-clause-begun
returns-clause-begun g c = grind (arith, nat_tests, common_steps, string_bytes, file_is, begun_others)
