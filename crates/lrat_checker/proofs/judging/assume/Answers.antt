use Rattle.std.proofs.{Common.{◌≡◌, ◌+◌, ◌-◌, ◌<◌, ◌∷◌, true, drop, length, sym, ap, ◌∙◌, inl, inr, arith, not}, lemmas.List.drop_more}
use Rattle.cnf_formula.specs.Literals.{has_literal, negation}
use Rattle.proof_rules.specs.Judging.{has_variable_twice}
use Rattle.lrat_checker.proofs.{Assumed.{twice_here, once_here}, judging.assume.Goals.{then-is_false-via-then-is_false, then-is_false-via-else-is_false+then-is_true}}
use Rattle.lrat_checker.proofs.judging.assume.Goals as goal

pub returns-then-is_false-clause-once : goal.returns-then-is_false-clause-once
returns-then-is_false-clause-once c =
    let lits = c.args.lits.now in
    let k = c.loop-left.left - 1 in
    let lit = c.index-lits-left.result in
    let i = c.loop-left.invariant in
    let w : k < length lits = omega (arith, i.within, c.loop-left-test.true) in
    let next : k + 1 ≡ c.loop-left.left = omega (arith, c.loop-left-test.true) in
    let here = drop_more lits k lit w ∙ ap (λ l. l ∷ drop (k + 1) lits) (sym c.index-lits-left.is) in
    let rest : c.loop-left.marks.falses ≡ drop (k + 1) lits = i.falses ∙ ap (λ n. drop n lits) (sym next) in
    let twice : has_variable_twice lits ≡ true = elim c.then-is_false.branch [
      | then-is_false-via-then-is_false x ↦ twice_here lits k lit (drop (k + 1) lits) here (inl (ap (λ fs. has_literal fs lit) (sym rest) ∙ sym c.is_false.ensures ∙ x.if-is_false.true))
      | then-is_false-via-else-is_false+then-is_true x ↦ twice_here lits k lit (drop (k + 1) lits) here (inr (ap (λ fs. has_literal fs (negation lit)) (sym rest) ∙ sym x.is_true.ensures ∙ x.if-is_true.true))
    ] in
    sym (ap not twice)

pub loop-left-preserved : goal.loop-left-preserved
loop-left-preserved c = grind (arith, drop_more, once_here)
