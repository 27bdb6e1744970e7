use Rattle.std.proofs.Common.{sym, ap, subst, ◌∙◌}
use Rattle.trail_core.{specs.{inner.Packed.{levels_of, reasons_of}, Formed.IsTrail, Trails.lits_of}, proofs.{Trails.lits-steps, Forming.formed_by}}
use Rattle.trail_core.proofs.trail.Trail.lits.Goals as goal

pub returns-clause-value : goal.returns-clause-value
returns-clause-value c = c.deref.ensures.value ∙ sym (lits-steps (reasons_of c.self.inside.assignments.items) c.self.inside.lits.items) ∙ ap (λ t. lits_of t.steps) c.self.view_is

pub returns-clause-formed : goal.returns-clause-formed
returns-clause-formed c =
    let i = c.self.inside in
    subst (λ t. IsTrail t.vars t.steps t.limits) c.self.view_is (formed_by i.vars i.values.items (levels_of i.assignments.items) (reasons_of i.assignments.items) i.lits.items i.limits.items c.self.invariant.0 c.self.invariant.1)
