use Rattle.std.proofs.Common.{◌≡◌, ◌*◌}
use Rattle.node_programs.specs.Runs.{operations}
use Rattle.replay_text.specs.Showing.{machine_of, shown_in}
use Rattle.trial_command.proofs.replays.replay_in_orders.Given as goal

abbrev pub invariant-loop-moves : goal.invariant-loop-moves
invariant-loop-moves l = l.events ≡ l.moves-index * operations (machine_of (shown_in l.report (l.fn.part, l.point)))
