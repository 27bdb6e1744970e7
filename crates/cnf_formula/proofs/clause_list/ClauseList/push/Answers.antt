use Rattle.std.proofs.{Common.{◌≡◌, ◌+◌, [], ◌∷◌, ◌++◌, length, sym, ap, ◌∙◌, subst, arith}, lemmas.List.length-append}
use Rattle.cnf_formula.{specs.inner.Lying.{cut, AreEnds}, proofs.Lying.{cut_push, ends_push}}
use Rattle.cnf_formula.proofs.clause_list.ClauseList.push.Goals as goal

pub invariant_of-self-2 : goal.invariant_of-self-2
invariant_of-self-2 c =
    let i = c.self.inside in
    let lits : c.extend_from_slice.new.self.items ≡ i.lits.items ++ c.args.lits.now = c.in_ok-extend_from_slice.ensures.items in
    let ends : c.push_reserved.new.self.items ≡ i.ends.items ++ c.len.result ∷ [] = c.push_reserved.ensures.items ∙ ap (λ es. es ++ c.len.result ∷ []) c.in_ok-reserve.ensures.items in
    let end : c.len.result ≡ length c.extend_from_slice.new.self.items = omega (arith, c.len.ensures) in
    subst (λ n. AreEnds 0 c.push_reserved.new.self.items n) end
    (subst (λ es. AreEnds 0 es c.len.result) (sym ends) (ends_push 0 i.ends.items (length i.lits.items) c.len.result c.self.invariant (omega (arith, end, ap length lits, length-append i.lits.items c.args.lits.now))))

pub returns-clause-added : goal.returns-clause-added
returns-clause-added c =
    let i = c.self.inside in
    let lits : c.extend_from_slice.new.self.items ≡ i.lits.items ++ c.args.lits.now = c.in_ok-extend_from_slice.ensures.items in
    let ends : c.push_reserved.new.self.items ≡ i.ends.items ++ c.len.result ∷ [] = c.push_reserved.ensures.items ∙ ap (λ es. es ++ c.len.result ∷ []) c.in_ok-reserve.ensures.items in
    ap (λ ls. cut ls 0 c.push_reserved.new.self.items) lits ∙ ap (cut (i.lits.items ++ c.args.lits.now) 0) ends
    ∙ cut_push i.lits.items c.args.lits.now 0 i.ends.items c.len.result c.self.invariant (omega (arith, c.len.ensures, ap length lits, length-append i.lits.items c.args.lits.now))
    ∙ ap (λ cs. cs ++ c.args.lits.now ∷ []) c.self.view_is
