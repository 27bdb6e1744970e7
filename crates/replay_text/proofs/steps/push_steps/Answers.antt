use Rattle.std.proofs.{Common.{arith, length-take}, lemmas.{Grind.{common_steps, flat_map-append}, List.{length-map, map-append, take_more}}}
use Rattle.replay_text.proofs.Lines.{steps_more}
use Rattle.replay_text.proofs.steps.push_steps.Goals as goal

pub loop-step-preserved : goal.loop-step-preserved
loop-step-preserved g c = grind (arith, common_steps, steps_more, take_more, map-append, length-map, length-take, flat_map-append)
