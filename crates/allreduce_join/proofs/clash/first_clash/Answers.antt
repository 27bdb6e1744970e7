use Rattle.std.proofs.Common.{◌<◌, length, None, Some, sym, ap, ◌∙◌, arith}
use Rattle.allreduce_join.proofs.Clashed.{clash_on, clash_past, clash_start}
use Rattle.allreduce_join.proofs.clash.first_clash.Goals as goal

pub loop-index-init : goal.loop-index-init
loop-index-init c = clash_start c.args.chunks c.args.nodes c.args.schedule.now c.args.adding

pub returns-in-Some : goal.returns-in-Some
returns-in-Some c =
    let below : c.loop-index.index < length c.args.schedule.now.rounds = omega (arith, ap length c.rounds.ensures.rounds) in
    sym (clash_on c.args.chunks c.args.nodes c.args.schedule.now c.args.adding c.loop-index.index (Some (c.in-Some.chunk, c.in-Some.node)) below (sym c.in-Some.is ∙ c.in_ok-chunk.ensures)) ∙ c.loop-index.invariant

pub loop-index-preserved : goal.loop-index-preserved
loop-index-preserved c =
    let below : c.loop-index.index < length c.args.schedule.now.rounds = omega (arith, ap length c.rounds.ensures.rounds) in
    sym (clash_on c.args.chunks c.args.nodes c.args.schedule.now c.args.adding c.loop-index.index None below (sym c.in_default.is ∙ c.in_ok-chunk.ensures)) ∙ c.loop-index.invariant

pub returns : goal.returns
returns c =
    sym (clash_past c.args.chunks c.args.nodes c.args.schedule.now c.args.adding c.loop-index.index (omega (arith, ap length c.rounds.ensures.rounds))) ∙ c.loop-index.invariant
