use Rattle.std.proofs.{Common.{◌≡◌, [], map, length, sym, subst, arith}, lemmas.{Bool.Decides.nat_tests, List.nil_from_length}}
use Rattle.ledger_rules.{specs.{Logs.learned, inner.Stored.line_in}, proofs.Storing.none_learned}
use Rattle.ledger_rules.proofs.line_list.LineList.has_learned.Goals as goal

pub returns : goal.returns
returns c = λ e.
    let i = c.self.inside in
    let short : length i.lits.items ≡ 0 = grind (arith, nat_tests) in
    subst (λ lines. learned lines ≡ []) c.self.view_is
    (subst (λ ls. learned (map (line_in ls i.hints.items) i.rows.items) ≡ []) (sym (nil_from_length i.lits.items short)) (none_learned i.hints.items i.rows.items))
