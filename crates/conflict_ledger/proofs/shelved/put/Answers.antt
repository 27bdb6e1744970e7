use Rattle.std.proofs.{Common.{◌++◌, length, sym, ap, ◌∙◌, arith, Some}, lemmas.List.take_all}
use Rattle.conflict_ledger.proofs.shelved.put.Goals as goal

pub returns-clause-front : goal.returns-clause-front
returns-clause-front g c = λ t before old.
    let text = c.args.text.now in
    (length text, c.in_ok-append_all.ensures.whole t before old ∙ ap (λ bytes. Some (before ++ bytes)) (sym (take_all (length text) text (omega arith))))
