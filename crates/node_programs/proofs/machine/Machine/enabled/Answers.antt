use Rattle.std.proofs.Common.{◌≡◌, get_or, Some, [], sym, ap, ◌∙◌, arith, slice_get, subst}
use Rattle.node_programs.{specs.{declared.op.Op.TheVariants.Take, Machines.ops_left}, proofs.Firing.seen_place}
use Rattle.node_programs.proofs.machine.Machine.enabled.Goals as goal

pub starts_at-requires : goal.starts_at-requires
starts_at-requires c =
    let next : slice_get (get_or c.self.inside.programs c.args.node []) 0 ≡ Some (Take c.in-Some-Take.chunk c.in-Some-Take.from c.in-Some-Take.step c.in-Some-Take.field-0-3) = sym c.in-Some-Take.ensures ∙ ap (λ op. Some op) c.in-Some-Take.field-0-is in
    omega (arith, seen_place _ _ _ _ c.self.view_is c.self.invariant _ _ c.requires _ _ _ _ (subst (λ s. slice_get (ops_left s c.args.node) 0 ≡ Some (Take c.in-Some-Take.chunk c.in-Some-Take.from c.in-Some-Take.step c.in-Some-Take.field-0-3)) c.self.view_is next) c.place.ensures, c.self.inside.queues.ok)
