use Rattle.std.proofs.{Common.{◌≡◌, map, get_or, sym, ◌∙◌, subst, Contains}, lemmas.List.get_or_read}
use Rattle.cnf_formula.specs.Literals.{LitValue, code_of}
use Rattle.lrat_checker.{specs.Stored.list_at, proofs.Noted.one_more}
use Rattle.lrat_checker.proofs.table.note_literals.Goals as goal

pub loop-lit-preserved : goal.loop-lit-preserved
loop-lit-preserved c =
    let i = c.loop-lit.invariant in
    let j = c.loop-lit.lit-index in
    let lit = c.lit-item.result in
    let place = c.args.place in
    let lists = map (λ v. v.items) c.note.new.lists.items in
    let at : (d : LitValue) → get_or c.args.lits.now j d ≡ lit = λ d. sym (get_or_read c.args.lits.now j lit c.loop-lit-test.true c.lit-item.is d) in
    record {
      long = c.note.ensures.long ∙ i.long;
      kept = λ code k h. c.note.ensures.kept code k (i.kept code k h);
      noted = one_more (λ x. Contains (list_at lists (code_of x)) place) c.args.lits.now j lit at c.loop-lit-test.true (subst (λ n. Contains (list_at lists n) place) c.code.ensures.code c.in_ok-note.ensures.noted) (λ x h. c.note.ensures.kept (code_of x) place (i.noted x h));
    }
