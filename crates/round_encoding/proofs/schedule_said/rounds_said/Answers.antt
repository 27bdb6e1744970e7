use Rattle.std.proofs.Common.{ℕ, ◌+◌, Bool, arith, ap}
use Rattle.cnf_formula.specs.Literals.{is_true}
use Rattle.round_encoding.specs.Frames.{Frame, extra_round}
use Rattle.send_encoding.proofs.Picking.{one_at_most, counts_one_more}
use Rattle.round_encoding.proofs.schedule_said.rounds_said.Goals as goal

pub loop-index-preserved : goal.loop-index-preserved
loop-index-preserved c =
    let f : Frame = record { map = c.args.map.now; extra = c.args.extra } in
    let p : ℕ → Bool = λ j. is_true c.args.assignment.now (extra_round f c.args.step j) in
    let index : ℕ = c.loop-index.index in
    let said : ℕ = c.loop-index.said in (
      counts_one_more said (said + c.said_one-said.result) 1 p 1 index (index + 1) (omega arith) c.loop-index.invariant.0 (ap (λ r. said + r) c.said_one-said.ensures),
      omega (arith, c.loop-index.invariant.1, c.said_one-said.ensures, one_at_most (p (index + 1))),
    )
