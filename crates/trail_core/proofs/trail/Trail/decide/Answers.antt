use Rattle.std.proofs.{Common.{◌≡◌, ◌+◌, [], ◌∷◌, ◌++◌, None, length, ap, refl, arith}, lemmas.List.length-set}
use Rattle.trail_core.specs.{declared.trail.Assignment.Assignment}
use Rattle.trail_core.proofs.{Trails.{same_trail, leveled_decide, placed_push}, Packed.no_reason, Valued.assigned_push, Fields.{seen, can_push, pushed}}
use Rattle.trail_core.proofs.trail.Trail.decide.Goals as goal

pub push_reserved-requires : goal.push_reserved-requires
push_reserved-requires c = let r = can_push _ _ _ _ _ _ _ c.self.invariant.0 c.self.invariant.1 c.self.view_is c.var-var.ensures.limits.some c.requires.within c.requires.open in omega (arith, r.room, r.few, c.self.invariant)

pub overflow_cast-len : goal.overflow_cast-len
overflow_cast-len c = let r = can_push _ _ _ _ _ _ _ c.self.invariant.0 c.self.invariant.1 c.self.view_is c.var-var.ensures.limits.some c.requires.within c.requires.open in omega (arith, r.room, r.few, c.push_reserved.ensures.len, c.self.invariant.5, c.len.ensures)

pub push_reserved-requires-2 : goal.push_reserved-requires-2
push_reserved-requires-2 c = let r = can_push _ _ _ _ _ _ _ c.self.invariant.0 c.self.invariant.1 c.self.view_is c.var-var.ensures.limits.some c.requires.within c.requires.open in omega (arith, r.room, c.self.invariant)

pub invariant_of-self : goal.invariant_of-self
invariant_of-self c =
    let i = c.self.inside in
    let r = can_push _ _ _ _ _ _ _ c.self.invariant.0 c.self.invariant.1 c.self.view_is c.var-var.ensures.limits.some c.requires.within c.requires.open in
    let m : c.len-place.result ≡ length i.lits.items = omega (arith, c.len-place.ensures) in
    let n : c.len.result ≡ length i.limits.items + 1 = omega (arith, c.len.ensures, c.push_reserved.ensures.len) in
    let x : Assignment = record { level = length i.limits.items + 1; reason = 4294967295; place = length i.lits.items } in
    let a = assigned_push i.vars i.values.items i.lits.items c.args.lit c.self.invariant.0 c.var-var.ensures.limits.some r.within r.is_open in
    let b = leveled_decide i.vars i.assignments.items i.lits.items i.limits.items c.args.lit x c.self.invariant.1 r.within r.new refl in
    let p = placed_push i.assignments.items i.lits.items c.args.lit x c.self.invariant.6 (omega (arith, c.self.invariant.2, r.within)) r.new refl in
    let limits : c.push_reserved.new.self.items ≡ i.limits.items ++ length i.lits.items ∷ [] = rw (← m) c.push_reserved.ensures.items in
    rw (c.var-var.ensures.var, c.set_values.ensures, n, m, c.push_reserved-2.ensures.items, limits) (a, b, omega (arith, length-set i.assignments.items c.args.lit.var x, c.self.invariant.2), omega (arith, c.push_reserved-2.ensures.capacity, c.self.invariant.3), omega (arith, c.push_reserved.ensures.capacity, c.self.invariant.4), c.self.invariant.5, p)

pub returns : goal.returns
returns c =
    let i = c.self.inside in
    let t = c.args.self.now in
    let r = can_push _ _ _ _ _ _ _ c.self.invariant.0 c.self.invariant.1 c.self.view_is c.var-var.ensures.limits.some c.requires.within c.requires.open in
    let a : Assignment = record { level = c.len.result; reason = 4294967295; place = c.len-place.result } in
    let m : c.len-place.result ≡ length t.steps = omega (arith, c.len-place.ensures, (seen _ _ _ _ _ c.self.view_is).count) in
    let old : i.limits.items ≡ t.limits = ap (λ u. u.limits) c.self.view_is in
    let limits : c.push_reserved.new.self.items ≡ t.limits ++ length t.steps ∷ [] = rw (← m, ← old) c.push_reserved.ensures.items in
    rw (c.var-var.ensures.var, c.push_reserved-2.ensures.items) (same_trail _ _ _ _ _ _ (ap (λ u. u.vars) c.self.view_is)
    (pushed i.assignments.items i.lits.items c.args.lit a None t.steps (ap (λ u. u.steps) c.self.view_is) (omega (arith, c.self.invariant.2, r.within)) r.new (no_reason a refl))
    limits)
