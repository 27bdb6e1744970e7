use Rattle.std.proofs.{Common.{arith, ◌++◌, ◌∙◌, ap, sym, map, get_or, length, []}, lemmas.List.append-nil}
use Rattle.text_lines.specs.Text.{line}
use Rattle.lrat_text.{specs.Printing.{closed, literal_word}, proofs.Trailed.one_more}
use Rattle.lrat_text.proofs.printing.print_cnf.Goals as goal

pub loop-place-preserved : goal.loop-place-preserved
loop-place-preserved c = let clauses = c.args.formula.now.clauses in let is = c.clause.ensures ∙ ap (λ cs. get_or cs c.loop-place.place []) c.clauses-clauses.ensures.clauses in
    one_more line (λ clause. closed (map literal_word clause)) _ _ _ clauses c.loop-place.place [] (omega (arith, c.loop-place-test.true, c.len-place-end.ensures, ap length c.clauses-clauses.ensures.clauses)) c.loop-place.invariant
    (c.in_ok-push_clause.ensures ∙ ap (λ clause. c.loop-place.out.items ++ line (closed (map literal_word clause))) is ∙ ap (λ z. c.loop-place.out.items ++ z) (sym (append-nil (line (closed (map literal_word (get_or clauses c.loop-place.place [])))))))
