use Rattle.std.proofs.Common.{◌∙◌, refl, sym, true, false}
use Rattle.schedule.proofs.{Joining.{step_below, step_of_nil, joins_more, joins_all}, run.joined.Goals.{then-holds, else-holds}}
use Rattle.schedule.proofs.run.joined.Goals as goal

pub loop-hop-init : goal.loop-hop-init
loop-hop-init c = c.in_ok-joined.ensures.cases.0 ∙ sym (step_of_nil _ c.args.step c.in_ok-joined.ensures.cases.1)

pub holds-requires-clause-chunk : goal.holds-requires-clause-chunk
holds-requires-clause-chunk c = (step_below _ _ _ c.args.schedule.now _ c.requires c.sends_of-hop-items.ensures.sends c.loop-hop.hop-index _ c.loop-hop-test.true).chunk

pub holds-requires-clause-node : goal.holds-requires-clause-node
holds-requires-clause-node c = (step_below _ _ _ c.args.schedule.now _ c.requires c.sends_of-hop-items.ensures.sends c.loop-hop.hop-index _ c.loop-hop-test.true).from

pub insert-requires-clause-chunk : goal.insert-requires-clause-chunk
insert-requires-clause-chunk c = rw c.loop-hop.invariant (step_below _ _ _ c.args.schedule.now _ c.requires c.sends_of-hop-items.ensures.sends c.loop-hop.hop-index _ c.loop-hop-test.true).chunk

pub insert-requires-clause-node : goal.insert-requires-clause-node
insert-requires-clause-node c = rw c.loop-hop.invariant (step_below _ _ _ c.args.schedule.now _ c.requires c.sends_of-hop-items.ensures.sends c.loop-hop.hop-index _ c.loop-hop-test.true).to

pub loop-hop-preserved : goal.loop-hop-preserved
loop-hop-preserved c =
    let all = c.args.schedule.now.sends in
    elim c.if-holds.branch [
      | then-holds w ↦ rw w.joined-is (joins_more all _ c.args.before.now c.loop-hop.joined _ c.args.step c.loop-hop.hop-index _ true c.sends_of-hop-items.ensures.sends c.loop-hop-test.true c.loop-hop.invariant (sym c.holds.ensures.held ∙ w.if-holds.true) w.insert.ensures.inserted)
      | else-holds w ↦ rw w.joined-is (joins_more all _ c.args.before.now c.loop-hop.joined _ c.args.step c.loop-hop.hop-index _ false c.sends_of-hop-items.ensures.sends c.loop-hop-test.true c.loop-hop.invariant (sym c.holds.ensures.held ∙ w.if-holds.false) refl)
    ]

pub returns : goal.returns
returns c = joins_all _ _ _ _ _ c.loop-hop.hop-index c.sends_of-hop-items.ensures.sends c.loop-hop-test.false c.loop-hop.invariant
