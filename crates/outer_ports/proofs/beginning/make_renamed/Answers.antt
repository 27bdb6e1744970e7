use Rattle.std.proofs.Common.{◌∙◌, ap, sym, IsTrue}
use Rattle.outer_ports.specs.{Disks.Renames, Port.failed}
use Rattle.outer_ports.proofs.Faults.{err_is, renamed_own, renamed_spares}
use Rattle.outer_ports.proofs.beginning.make_renamed.Goals as goal

pub returns-in_err-file : goal.returns-in_err-file
returns-in_err-file g c = rw (err_is _ failed c.from_residual.ensures.1) (record { told = c.make_fresh.ensures.told; own = λ _. tt; empty = λ _. tt; others = λ _. tt; fault = c.make_fresh.ensures.others; counted = λ _. tt })

pub returns-in-Ok : goal.returns-in-Ok
returns-in-Ok g c = let C = g.C.FileCalls in let now = C.disk c.rename.new.self in let mid = C.disk c.make_fresh.new.calls in let told = c.rename.ensures.told in let made = c.in_ok-file.ensures in
    let renames : IsTrue (C.tells c.rename.new.self) → Renames c.args.fresh.now c.args.path.now mid now = λ t. c.in-Ok.ensures.renamed t (c.make_fresh.ensures.odd (told t) _ (λ same. c.requires.apart (sym same)) ∙ c.requires.plain (c.make_fresh.ensures.told (told t)))
    (λ same. (made.own (told t)).alone _ (λ e. c.requires.apart (sym e)) (sym same ∙ (made.own (told t)).here)) in record {
      told = λ t. c.make_fresh.ensures.told (told t);
      own = λ t. renamed_own _ _ _ mid now (made.own (told t)) (renames t);
      empty = λ t. ap (λ bytes. bytes (C.number c.in_ok-file.file)) (renames t).bytes ∙ made.empty (told t);
      others = λ t. renamed_spares _ _ _ mid now (c.make_fresh.ensures.others (told t)) (renames t);
      fault = λ _. tt;
      counted = λ t. (c.in-Ok.ensures.counted t).stays ∙ made.counted (told t);
    }

pub returns-in-Err : goal.returns-in-Err
returns-in-Err g c = let told = c.close-closed.ensures.told in let before = c.rename.ensures.told in record {
  told = λ t. c.make_fresh.ensures.told (before (told t));
  own = λ _. tt;
  empty = λ _. tt;
  others = λ _. tt;
  fault = λ t. rw (c.close-closed.ensures.stays t ∙ c.in-Err.ensures.fault (told t)) (c.make_fresh.ensures.others (before (told t)));
  counted = λ _. tt;
}
