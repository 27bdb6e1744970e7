use Rattle.schedule.proofs.Stepping.{run_at, chunks-after, nodes-after, placement-after}
use Rattle.schedule.proofs.laws.a_run_keeps_the_size.Goals as goal

pub returns : goal.returns
returns c = record { each = run_at; chunks = chunks-after; nodes = nodes-after; placement = placement-after }
