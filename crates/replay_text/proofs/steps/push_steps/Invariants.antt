use Rattle.std.proofs.Common.{◌≡◌, ◌++◌, map, take}
use Rattle.text_lines.specs.Text.{text_of}
use Rattle.replay_text.specs.Replay.{numbered_steps}
use Rattle.replay_text.proofs.steps.push_steps.Given as goal

abbrev pub invariant-loop-step : goal.invariant-loop-step
invariant-loop-step g l = l.out.items ≡ l.initial.out.items ++ text_of (numbered_steps 0 (map (g.N.NodeLines.lines l.names) (take l.step l.run)))
