use Rattle.std.proofs.{Common.{◌≡◌, Some, length, refl, ap, arith}, lemmas.List.length-set}
use Rattle.trail_core.specs.{declared.trail.Assignment.Assignment}
use Rattle.trail_core.proofs.{Trails.{same_trail, leveled_push, placed_push}, Packed.some_reason, Valued.{assigned_push}, Fields.{CanPush, can_push, pushed}, trail.Trail.push.Goals.After-len}
use Rattle.trail_core.proofs.trail.Trail.push.Goals as goal

ready : (c : After-len) → CanPush c.self.inside.vars c.self.inside.values.items c.self.inside.lits.items c.self.inside.limits.items c.args.lit
ready c = can_push _ _ _ _ _ _ _ c.self.invariant.0 c.self.invariant.1 c.self.view_is c.var-var.ensures.limits.some c.requires.within c.requires.open

pub set_values-requires-clause-here : goal.set_values-requires-clause-here
set_values-requires-clause-here c = (can_push _ _ _ _ _ _ _ c.self.invariant.0 c.self.invariant.1 c.self.view_is c.var-var.ensures.limits.some c.requires.within c.requires.open).here

pub set_values-requires-clause-opposite : goal.set_values-requires-clause-opposite
set_values-requires-clause-opposite c = (can_push _ _ _ _ _ _ _ c.self.invariant.0 c.self.invariant.1 c.self.view_is c.var-var.ensures.limits.some c.requires.within c.requires.open).there

pub push_reserved-requires : goal.push_reserved-requires
push_reserved-requires c = let r = ready (goal.at.push_reserved-requires c).After-len in omega (arith, r, c.self.invariant)

pub overflow_cast-len : goal.overflow_cast-len
overflow_cast-len c = let r = ready (goal.at.overflow_cast-len c).After-len in omega (arith, r.few, r.room, c.self.invariant.5, c.len.ensures)

pub overflow_cast-len-2 : goal.overflow_cast-len-2
overflow_cast-len-2 c = let r = ready (goal.at.overflow_cast-len-2 c).After-len in omega (arith, r.room, c.self.invariant.5, c.len-2.ensures)

pub invariant_of-self : goal.invariant_of-self
invariant_of-self c =
    let i = c.self.inside in
    let r = ready (goal.at.invariant_of-self c).After-len in
    let n : c.len.result ≡ length i.limits.items = omega (arith, c.len.ensures) in
    let m : c.len-2.result ≡ length i.lits.items = omega (arith, c.len-2.ensures) in
    let x : Assignment = record { level = length i.limits.items; reason = c.args.reason; place = length i.lits.items } in
    let a = assigned_push i.vars i.values.items i.lits.items c.args.lit c.self.invariant.0 c.var-var.ensures.limits.some r.within r.is_open in
    let b = leveled_push i.vars i.assignments.items i.lits.items i.limits.items c.args.lit x c.self.invariant.1 r.within r.new refl in
    let p = placed_push i.assignments.items i.lits.items c.args.lit x c.self.invariant.6 (omega (arith, c.self.invariant.2, r.within)) r.new refl in
    rw (c.var-var.ensures.var, c.set_values.ensures, n, m, c.push_reserved.ensures.items) (a, b, omega (arith, length-set i.assignments.items c.args.lit.var x, c.self.invariant.2), omega (arith, c.push_reserved.ensures.capacity, c.self.invariant.3), c.self.invariant.4, c.self.invariant.5, p)

pub returns : goal.returns
returns c =
    let i = c.self.inside in
    let r = ready (goal.at.returns c).After-len in
    let a : Assignment = record { level = c.len.result; reason = c.args.reason; place = c.len-2.result } in
    rw (c.var-var.ensures.var, c.push_reserved.ensures.items) (same_trail _ _ _ _ _ _ (ap (λ t. t.vars) c.self.view_is)
    (pushed i.assignments.items i.lits.items c.args.lit a (Some c.args.reason) c.args.self.now.steps (ap (λ t. t.steps) c.self.view_is) (omega (arith, c.self.invariant.2, r.within)) r.new (some_reason a (λ e. absurd (omega (arith, e, c.requires.small)))))
    (ap (λ t. t.limits) c.self.view_is))
