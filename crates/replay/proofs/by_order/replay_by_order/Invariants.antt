use Rattle.std.{proofs.Common.{◌≡◌, ◌≤◌, ◌-◌, Some, vec_len}, specs.Vec.vec_capacity}
use Rattle.node_programs.specs.Runs.{machine_run}
use Rattle.replay.proofs.Moving.{IsPicked}
use Rattle.replay.proofs.by_order.replay_by_order.Given as goal

abbrev pub invariant-loop-turn : goal.invariant-loop-turn
invariant-loop-turn l = record {
  ran : machine_run l.initial.machine l.moves.items ≡ Some l.machine;
  drawn : IsPicked l.count l.initial.machine l.seed l.moves.items (l.count - l._turn) l.machine l.generator.state;
  len : vec_len l.moves ≡ l._turn;
  room : l.count ≤ vec_capacity l.moves;
}
