use Rattle.std.proofs.{Common.{sym, arith}, lemmas.Option.slice_get_past}
use Rattle.node_programs.specs.Runs.{enabled}
use Rattle.replay.proofs.drawing.ranked.Goals as goal

pub returns-then-count-eq0-clause-node : goal.returns-then-count-eq0-clause-node
returns-then-count-eq0-clause-node c = sym (slice_get_past (enabled c.args.machine.now) _ (omega arith))
