use Rattle.std.proofs.Common.{sym, ◌∙◌}
use Rattle.replay.proofs.Ended.{finished_last, listed_run}
use Rattle.replay.proofs.by_list.replay_by_list.Goals as goal

pub returns-then-finished-clause-finished : goal.returns-then-finished-clause-finished
returns-then-finished-clause-finished c _ =
    let now = c.loop-place.machine in
    finished_last c.args.machine.now now c.args.nodes.now (listed_run c.args.machine.now now c.args.nodes.now c.loop-place.place c.loop-place.invariant c.loop-place-test.false) (sym c.finished.ensures ∙ c.if-finished.true)
