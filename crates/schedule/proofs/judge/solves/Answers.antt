use Rattle.schedule.proofs.Verdicts.{tells_solves, tells_no_link, tells_overfull, tells_lacking}
use Rattle.schedule.proofs.judge.solves.Goals as goal

pub returns : goal.returns
returns c =
    let t = c.args.topology.now in
    let pre = c.args.pre.now in
    let post = c.args.post.now in
    let s = c.args.schedule.now in
    let v = c.solves_by_run.result in
    let is = c.solves_by_run.ensures in
    record { exact = is; solves = tells_solves t pre post s v is; no_link = tells_no_link t pre post s v c.rounds-rounds.ensures.limits is; overfull = tells_overfull t pre post s v is; lacking = tells_lacking t pre post s v c.chunks-chunks.ensures.limits is }
