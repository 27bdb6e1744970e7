use Rattle.std.proofs.Common.{◌≡◌, ◌||◌, ◌==◌, true, List, length, sym, ap, ◌∙◌, subst, arith}
use Rattle.cnf_formula.specs.{Lines.ProofLineValue, Literals.LitValue}
use Rattle.proof_rules.specs.{Judging.{verdict_of, is_accepted}, Held.has_none}
use Rattle.lrat_checker.{specs.Checking.{checker_of, CanCheck}, proofs.{Checked.{can_add, table_with, empty_is}, checker.Checker.hold.Goals.{then-self, else-self}}}
use Rattle.lrat_checker.proofs.checker.Checker.hold.Goals as goal

pub invariant_of-self-2 : goal.invariant_of-self-2
invariant_of-self-2 c =
    let i = c.self.inside in
    let line : ProofLineValue = record { id = c.line.inside.id; lits = c.line.inside.lits.items; hints = c.line.inside.hints.items } in
    let same : line ≡ c.args.line.now = c.line.view_is in
    let old = checker_of i.table i.originals i.greatest i.refuted in
    let accepted : is_accepted (verdict_of old line) ≡ true = grind arith in
    let can = can_add i.table i.marks i.originals i.greatest i.refuted line c.self.invariant accepted in
    let with_lits = λ (ls : List LitValue). table_with i.table (record { id = c.line.inside.id; lits = ls; hints = c.line.inside.hints.items }) in
    let new : c.push.new.self ≡ table_with i.table line = c.in_ok-push.ensures.added ∙ ap with_lits c.deref.ensures.value in
    let refuted : c.if-self.refuted ≡ (i.refuted || has_none line.lits) = elim c.if-self.branch [
      | then-self w ↦ w.refuted-is ∙ w.if-self.true ∙ sym (ap (λ b. b || has_none line.lits) w.if-self.true)
      | else-self w ↦
          let none : (length line.lits == 0) ≡ has_none line.lits = empty_is line.lits in
          let long : c.line.inside.lits.len ≡ length line.lits = omega (arith, c.line.inside.lits.ok.0) in
          w.refuted-is ∙ w.is_empty-refuted.ensures ∙ ap (λ n. n == 0) long ∙ none ∙ sym (ap (λ b. b || has_none line.lits) w.if-self.false)
    ] in
    subst (λ t. CanCheck t i.marks i.originals c.line.inside.id c.if-self.refuted) (sym new) (subst (CanCheck (table_with i.table line) i.marks i.originals c.line.inside.id) (sym refuted) can)
