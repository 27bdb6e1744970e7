use Rattle.std.proofs.{Common.{None, ap, length, arith}, lemmas.Result.IfOk-weaker}
use Rattle.inversion.{specs.Judging.{first_uneven, last_bags}, proofs.Misfits.{judged_misfit, told, verdict_counts}}
use Rattle.inversion.proofs.judge.sums.Goals as goal

pub returns-in-Some : goal.returns-in-Some
returns-in-Some c =
    let t = c.args.topology.now in
    let s = c.args.schedule.now in
    let last = last_bags t s in
    let all = told t c.args.demand.now s c.in-Some.misfit (judged_misfit t s last None (first_uneven last t.nodes c.args.demand.now.pairs) c.in-Some.misfit c.in-Some.ensures.misfit) in
    record { exact = all.exact; sums = all.sums }

pub returns : goal.returns
returns c =
    let t = c.args.topology.now in
    let s = c.args.schedule.now in
    let all = IfOk-weaker c.judge_counts.result _ _ (λ v is. told t c.args.demand.now s v (verdict_counts t c.args.demand.now s _ v (omega (arith, ap length c.rounds.ensures.rounds)) c.in_default.ensures.misfit is)) c.judge_counts.ensures in
    record { exact = IfOk-weaker c.judge_counts.result _ _ (λ v it. it.exact) all; sums = IfOk-weaker c.judge_counts.result _ _ (λ v it. it.sums) all }
