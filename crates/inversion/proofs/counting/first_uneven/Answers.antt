use Rattle.std.proofs.Common.{◌<◌, ◌∙◌, None, Some, refl, sym, arith}
use Rattle.schedule.specs.Placed.{holds}
use Rattle.bag_runs.specs.Stores.{StoreValue, bags_in}
use Rattle.inversion.proofs.Uneven.{grid_on, grid_past, grid_start}
use Rattle.inversion.proofs.counting.first_uneven.Goals as goal

pub loop-chunk-init : goal.loop-chunk-init
loop-chunk-init c = grid_start (bags_in c.args.store.now) c.args.demand.now c.args.demand.now.chunks c.args.store.now.nodes refl c.requires.nodes c.chunks-chunk-end.ensures.limits

pub returns-in-Some-clause-first : goal.returns-in-Some-clause-first
returns-in-Some-clause-first c =
    let s : StoreValue = c.args.store.now in
    let below : c.loop-chunk.chunk < c.args.demand.now.chunks = omega arith in
    sym (grid_on (bags_in s) s.nodes (holds c.args.demand.now) c.loop-chunk.chunk c.args.demand.now.chunks (Some c.in-Some.due) below c.in-Some.ensures) ∙ c.loop-chunk.invariant

pub loop-chunk-preserved : goal.loop-chunk-preserved
loop-chunk-preserved c =
    let s : StoreValue = c.args.store.now in
    let below : c.loop-chunk.chunk < c.args.demand.now.chunks = omega arith in
    sym (grid_on (bags_in s) s.nodes (holds c.args.demand.now) c.loop-chunk.chunk c.args.demand.now.chunks None below c.in_default.ensures) ∙ c.loop-chunk.invariant

pub returns-clause-first : goal.returns-clause-first
returns-clause-first c = grind (arith, grid_past)
