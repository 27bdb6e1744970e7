use Rattle.std.proofs.{Common.{◌≡◌, ◌+◌, ◌∷◌, List, get_or, drop, Option, None, Some, Result, Ok, Err, refl, sym, ap, ◌∙◌, subst, rules, pos, w64, of_z, to_z, arith}, lemmas.List.drop_all}
use Rattle.cnf_formula.{proofs.Clauses.negation_about, specs.{Literals.{LitValue, negation}, Formulas.IsAbout}}
use lib.IntN.{nat_abs}
use Rattle.proof_rules.specs.{declared.verdict.LineCode.{LineCode, TheVariants.UnknownHint}, Held.clause_at, Judging.{given_by_clause, led_to}, Accepting.leading}
use Rattle.lrat_checker.{specs.inner.Marking.Extends, proofs.{Taken.{led_by, hint_led, hint_here, none_here, given_about, extends_more}, leading.lead.Goals.After-clause}}
use Rattle.lrat_checker.proofs.leading.lead.Goals as goal

pub mark-requires : goal.mark-requires
mark-requires c =
    let lit = c.in-Ok-Some.lit in
    subst (λ l. IsAbout c.loop-place.marks.vars l) (sym c.negated.ensures) (negation_about c.loop-place.marks.vars lit (subst (λ n. IsAbout n lit) (sym (c.loop-place.invariant.vars ∙ c.requires.same))
    (given_about c.args.table.now.vars c.loop-place.marks.falses c.in-Some.clause.now lit c.in-Some.ensures.about (sym c.in-Ok-Some.ensures ∙ ap Ok c.in-Ok-Some.field-0-is))))

-- the hints lead where the one that was read does
read : (c : After-clause) (o : Option (List LitValue)) (given : Result (Option LitValue) LineCode) → o ≡ clause_at c.args.table.now.held (nat_abs (to_z w64 (of_z w64 (get_or c.args.hints.now c.loop-place.place (pos 0))))) → given_by_clause c.loop-place.marks.falses o ≡ given
    → led_to c.args.table.now.held c.args.marks.now.falses c.args.from (leading (drop c.args.from c.args.hints.now)) ≡ led_by c.args.table.now.held c.loop-place.marks.falses c.loop-place.place (leading (drop (c.loop-place.place + 1) c.args.hints.now)) given
read c o given e g = c.loop-place.invariant.led ∙ hint_led c.args.table.now.held c.loop-place.marks.falses c.args.hints.now c.loop-place.place _ o given (hint_here c.args.hints.now c.loop-place.place _ c.loop-place-test.true (search rules) c.if-hints-place-lt0.false refl) (sym e) g

pub returns-then-hints-place-lt0-clause-led : goal.returns-then-hints-place-lt0-clause-led
returns-then-hints-place-lt0-clause-led c = sym (c.loop-place.invariant.led ∙ ap (led_to c.args.table.now.held c.loop-place.marks.falses c.loop-place.place) (none_here c.args.hints.now c.loop-place.place c.loop-place-test.true (search rules) c.if-hints-place-lt0.true))

pub returns-in_default-clause-led : goal.returns-in_default-clause-led
returns-in_default-clause-led c = sym (read (goal.at.returns-in_default-clause-led c).After-clause None (Err UnknownHint) c.in_default.ensures.held refl)

pub returns-in-Err-clause-led : goal.returns-in-Err-clause-led
returns-in-Err-clause-led c = sym (read (goal.at.returns-in-Err-clause-led c).After-clause (Some c.in-Some.clause.now) (Err c.in-Err.code) c.in-Some.ensures.held (sym c.in-Err.ensures))

pub returns-in-Ok-None-clause-led : goal.returns-in-Ok-None-clause-led
returns-in-Ok-None-clause-led c =
    c.conflict_before.ensures c.loop-place.marks.falses ∙ sym (read (goal.at.returns-in-Ok-None-clause-led c).After-clause (Some c.in-Some.clause.now) (Ok None) c.in-Some.ensures.held (sym c.in-Ok-None.ensures ∙ ap Ok c.in-Ok-None.field-0-is))

pub loop-place-preserved : goal.loop-place-preserved
loop-place-preserved c =
    let lit = c.in-Ok-Some.lit in
    let marked = c.in_ok-mark-in-Ok-Some.ensures.marked in
    let falses = ap (λ m. m.falses) marked ∙ ap (λ l. l ∷ c.loop-place.marks.falses) c.negated.ensures in
    record {
      led = read (goal.at.loop-place-preserved c).After-clause (Some c.in-Some.clause.now) (Ok (Some lit)) c.in-Some.ensures.held (sym c.in-Ok-Some.ensures ∙ ap Ok c.in-Ok-Some.field-0-is)
          ∙ ap (λ fs. led_to c.args.table.now.held fs (c.loop-place.place + 1) (leading (drop (c.loop-place.place + 1) c.args.hints.now))) (sym falses);
      vars = ap (λ m. m.vars) marked ∙ c.loop-place.invariant.vars;
      grown = subst (Extends c.args.marks.now.falses) (sym falses) (extends_more c.args.marks.now.falses c.loop-place.marks.falses (negation lit) c.loop-place.invariant.grown);
    }

pub returns-clause-led : goal.returns-clause-led
returns-clause-led c = sym (c.loop-place.invariant.led ∙ ap (λ hs. led_to c.args.table.now.held c.loop-place.marks.falses c.loop-place.place (leading hs)) (drop_all c.loop-place.place c.args.hints.now (omega (arith, c.loop-place-test.false))))
