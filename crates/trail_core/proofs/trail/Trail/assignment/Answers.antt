use Rattle.std.proofs.{lemmas.Grind.common_steps, Common.{Contains, subst, arith}}
use Rattle.list_laws.proofs.Fronts.{at_map}
use Rattle.trail_core.{specs.inner.Packed.{reason_of}, proofs.{Trails.step_at, Fields.{seen, stands_within}}}
use Rattle.trail_core.proofs.trail.Trail.assignment.Goals as goal

pub index-requires : goal.index-requires
index-requires c = let h = stands_within _ _ _ _ _ _ c.self.invariant.0 (seen _ _ _ _ _ c.self.view_is) c.requires in omega arith

pub returns : goal.returns
returns c =
    let s = seen _ _ _ _ _ c.self.view_is in
    let h = stands_within _ _ _ _ _ _ c.self.invariant.0 s c.requires in
    record {
      level = λ k w e. grind (arith, common_steps, at_map);
      within = grind (arith, common_steps, at_map);
      is = grind (arith, common_steps, at_map);
      only = grind (arith, common_steps, at_map);
      reason = subst (λ t. Contains t.steps (record { lit = c.args.lit; reason = reason_of c.index.result.now })) c.self.view_is (step_at _ _ _ _ h.0 (grind (arith, at_map)));
    }
