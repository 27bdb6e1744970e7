use Rattle.std.proofs.Common.{ℕ, ◌+◌, arith, ap}
use Rattle.round_encoding.specs.{Frames.Frame, Decoding.rounds_said}
use Rattle.send_encoding.proofs.Picking.{sums_one_more}
use Rattle.round_encoding.proofs.schedule_said.all_said.Goals as goal

pub loop-index-preserved : goal.loop-index-preserved
loop-index-preserved c =
    let f : Frame = record { map = c.args.map.now; extra = c.args.extra } in
    let index : ℕ = c.loop-index.index in
    let total : ℕ = c.loop-index.total in (
      sums_one_more total (total + c.rounds_said-total.result) (rounds_said f c.args.assignment.now) 1 index (index + 1) (omega arith) c.loop-index.invariant.0 (ap (λ r. total + r) c.rounds_said-total.ensures.said),
      omega (arith, c.loop-index.invariant.1, c.rounds_said-total.ensures.few),
    )
