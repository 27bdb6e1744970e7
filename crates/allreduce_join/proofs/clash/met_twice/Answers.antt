use Rattle.std.proofs.Common.{ℕ, List, get_or, sym, ap, ◌∙◌, arith}
use Rattle.schedule.{specs.{declared.hop.Hop.Hop, Placed.PlacementValue}, proofs.Joining.{IsHopBelow, step_below}}
use Rattle.allreduce_join.proofs.{Meeting.{again, first_time, met_all, met_none}, clash.met_twice.Goals.{then-holds, else-holds}}
use Rattle.allreduce_join.proofs.clash.met_twice.Goals as goal

abbrev no_hop : Hop
no_hop = record { chunk = 0; from = 0; to = 0; step = 0 }

pub loop-hop-init : goal.loop-hop-init
loop-hop-init c = record { met_is = c.in_ok-met.ensures ∙ met_none 0 c.args.chunks c.args.nodes c.args.step; twice_is = c.in_ok-twice.ensures ∙ met_none 1 c.args.chunks c.args.nodes c.args.step }

pub holds-requires-clause-chunk : goal.holds-requires-clause-chunk
holds-requires-clause-chunk c = omega (arith, (step_below _ _ _ c.args.schedule.now _ c.requires c.sends_of-hop-items.ensures.sends _ no_hop c.loop-hop-test.true).chunk, ap (λ (p : PlacementValue). p.chunks) c.loop-hop.invariant.met_is)

pub holds-requires-clause-node : goal.holds-requires-clause-node
holds-requires-clause-node c = omega (arith, (step_below _ _ _ c.args.schedule.now _ c.requires c.sends_of-hop-items.ensures.sends _ no_hop c.loop-hop-test.true).to, ap (λ (p : PlacementValue). p.nodes) c.loop-hop.invariant.met_is)

pub insert-requires-clause-chunk : goal.insert-requires-clause-chunk
insert-requires-clause-chunk c = omega (arith, (step_below _ _ _ c.args.schedule.now _ c.requires c.sends_of-hop-items.ensures.sends _ no_hop c.loop-hop-test.true).chunk, ap (λ (p : PlacementValue). p.chunks) c.loop-hop.invariant.twice_is)

pub insert-requires-clause-node : goal.insert-requires-clause-node
insert-requires-clause-node c = omega (arith, (step_below _ _ _ c.args.schedule.now _ c.requires c.sends_of-hop-items.ensures.sends _ no_hop c.loop-hop-test.true).to, ap (λ (p : PlacementValue). p.nodes) c.loop-hop.invariant.twice_is)

pub insert-requires-else-holds-clause-chunk : goal.insert-requires-else-holds-clause-chunk
insert-requires-else-holds-clause-chunk c = omega (arith, (step_below _ _ _ c.args.schedule.now _ c.requires c.sends_of-hop-items.ensures.sends _ no_hop c.loop-hop-test.true).chunk, ap (λ (p : PlacementValue). p.chunks) c.loop-hop.invariant.met_is)

pub insert-requires-else-holds-clause-node : goal.insert-requires-else-holds-clause-node
insert-requires-else-holds-clause-node c = omega (arith, (step_below _ _ _ c.args.schedule.now _ c.requires c.sends_of-hop-items.ensures.sends _ no_hop c.loop-hop-test.true).to, ap (λ (p : PlacementValue). p.nodes) c.loop-hop.invariant.met_is)

pub loop-hop-preserved : goal.loop-hop-preserved
loop-hop-preserved c =
    let sends : List Hop = c.sends_of-hop-items.result.now in
    let i : ℕ = c.loop-hop.hop-index in
    let below : IsHopBelow c.args.chunks c.args.nodes (get_or sends i no_hop) = step_below c.args.chunks c.args.nodes c.args.step c.args.schedule.now c.sends_of-hop-items.result.now c.requires c.sends_of-hop-items.ensures.sends c.loop-hop.hop-index no_hop c.loop-hop-test.true in
    elim c.if-holds.branch [
      | then-holds w ↦ rw w.met-is (again c.args.chunks c.args.nodes c.args.step c.args.schedule.now.sends sends i no_hop c.loop-hop.met c.loop-hop.twice c.if-holds.twice c.sends_of-hop-items.ensures.sends c.loop-hop-test.true below.chunk below.to c.loop-hop.invariant (sym c.holds.ensures.held ∙ w.if-holds.true) (w.twice-is ∙ w.insert.ensures.inserted))
      | else-holds w ↦ rw w.twice-is (first_time c.args.chunks c.args.nodes c.args.step c.args.schedule.now.sends sends i no_hop c.loop-hop.met c.loop-hop.twice c.if-holds.met c.sends_of-hop-items.ensures.sends c.loop-hop-test.true below.chunk below.to c.loop-hop.invariant (sym c.holds.ensures.held ∙ w.if-holds.false) (w.met-is ∙ w.insert-else-holds.ensures.inserted))
    ]

pub returns : goal.returns
returns c = met_all c.args.chunks c.args.nodes c.args.step c.args.schedule.now.sends c.sends_of-hop-items.result.now c.loop-hop.hop-index c.loop-hop.met c.loop-hop.twice c.sends_of-hop-items.ensures.sends c.loop-hop-test.false c.loop-hop.invariant
