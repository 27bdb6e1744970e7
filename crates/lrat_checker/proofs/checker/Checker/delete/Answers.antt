use Rattle.std.proofs.Common.{arith, ◌≡◌, true, sym, ap, ◌∙◌, subst, ◌&&◌, not}
use Rattle.proof_rules.specs.Testing.{are_held, has_number_twice}
use Rattle.lrat_checker.{specs.Checking.CanCheck, proofs.Checked.{can_delete, table_without}}
use Rattle.lrat_checker.proofs.checker.Checker.delete.Goals as goal

pub invariant_of-self : goal.invariant_of-self
invariant_of-self c =
    let i = c.self.inside in
    let ids = c.deletion.inside.ids.items in
    let allowed : (are_held i.table.held ids && not (has_number_twice ids)) ≡ true = grind arith in
    let new = c.remove.ensures.removed c.if-remove.true ∙ ap (table_without i.table) c.deref-2.ensures.value in
    subst (λ t. CanCheck t i.marks i.originals i.greatest i.refuted) (sym new)
    (can_delete i.table i.marks i.originals i.greatest i.refuted (record { id = c.deletion.inside.id; ids = ids }) c.self.invariant allowed)
