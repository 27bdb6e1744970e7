use Rattle.std.proofs.Common.{◌∙◌, ◌+◌, sym, ap, length, arith}
use Rattle.schedule.{specs.Judging.is_overfull, proofs.Grids.{find_here, find_later}}
use Rattle.schedule.proofs.bandwidth.first_overfull.Goals as goal

pub returns-in-Some : goal.returns-in-Some
returns-in-Some c =
    let t = c.args.topology.now in
    let s = c.args.schedule.now in
    sym (find_here (is_overfull t s) (c.loop-index.index + 1) (length s.rounds + 1) (length t.groups) _ (omega (arith, ap length c.rounds.ensures.rounds)) c.in-Some.ensures) ∙ c.loop-index.invariant

pub loop-index-preserved : goal.loop-index-preserved
loop-index-preserved c =
    let t = c.args.topology.now in
    let s = c.args.schedule.now in
    sym (find_later (is_overfull t s) (c.loop-index.index + 1) (length s.rounds + 1) (length t.groups) (omega (arith, ap length c.rounds.ensures.rounds)) c.in_default.ensures) ∙ c.loop-index.invariant
