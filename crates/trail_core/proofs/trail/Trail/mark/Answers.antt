use Rattle.std.proofs.{lemmas.List.get_or_read, Common.{arith}}
use Rattle.trail_core.proofs.{Valued.{code_of_within, value_is}, Fields.seen}
use Rattle.trail_core.proofs.trail.Trail.mark.Goals as goal

pub index-requires : goal.index-requires
index-requires c = grind (arith, code_of_within)

pub returns : goal.returns
returns c =
    let s = seen _ _ _ _ _ c.self.view_is in
    let v = value_is c.self.inside.vars c.self.inside.values.items c.self.inside.lits.items c.args.lit c.index.result.now c.self.invariant.0 c.code.ensures.limits.some (omega (arith, c.requires)) (grind (arith, get_or_read)) in
    rw s.lits_same (record { unset = v.0; is_true = v.1; is_false = v.2; set = v.3 })
