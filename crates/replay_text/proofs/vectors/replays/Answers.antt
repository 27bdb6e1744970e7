use Rattle.std.{proofs.Common.refl, specs.Fmt.digits}
use Rattle.replay_text.specs.Showing.{shown_text}
use Rattle.replay_text.proofs.vectors.replays.Goals as goal

pub returns-clause-broadcast : goal.returns-clause-broadcast
unfolding shown_text digits
returns-clause-broadcast c = refl

pub returns-clause-joined : goal.returns-clause-joined
unfolding shown_text digits
returns-clause-joined c = refl
