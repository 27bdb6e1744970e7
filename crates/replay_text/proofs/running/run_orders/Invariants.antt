use Rattle.std.proofs.Common.{◌≡◌, map, take}
use Rattle.node_programs.specs.{Machines.started, Runs.chosen}
use Rattle.replay_text.proofs.running.run_orders.Given as goal

abbrev pub invariant-loop-seed : goal.invariant-loop-seed
invariant-loop-seed l = map (λ moves. moves.items) l.runs.items ≡ map (chosen (started l.programs l.start)) (take l.seed-index l.seeds)
