use Rattle.std.proofs.{Common.{arith, length, sym, ap, ◌∙◌, inl, inr, ⊎_elim, Some}, lemmas.List.take_all}
use Rattle.candidate_solver.proofs.Begun.{written}
use Rattle.candidate_solver.proofs.files.write_formula.Goals as goal

pub returns-in_err-write_file-clause-begins : goal.returns-in_err-write_file-clause-begins
returns-in_err-write_file-clause-begins g c = λ t.
    let F = g.H.Shelf.file in
    written c.args.formula.now c.args.part c.args.candidate (F c.args.store.now) (F c.write_file.new.shelf) c.file_name.result c.deref.result.now
    c.file_name.ensures (c.deref.ensures.value ∙ c.in_ok-text.ensures) (c.write_file.ensures.others t) (⊎_elim (λ e. inl e) (λ w. inr (w.0, w.2)) (c.in_err-write_file.ensures.prefix t))

pub returns-clause-begins : goal.returns-clause-begins
returns-clause-begins g c = λ t.
    let F = g.H.Shelf.file in
    let text = c.deref.result.now in
    written c.args.formula.now c.args.part c.args.candidate (F c.args.store.now) (F c.write_file.new.shelf) c.file_name.result text
    c.file_name.ensures (c.deref.ensures.value ∙ c.in_ok-text.ensures) (c.write_file.ensures.others t) (inr (length text, c.in_ok-write_file.ensures.whole t ∙ ap Some (sym (take_all (length text) text (omega arith)))))
