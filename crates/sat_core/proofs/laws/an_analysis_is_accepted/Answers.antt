use Rattle.sat_core.proofs.AtConflict.{analysis_accepted}
use Rattle.sat_core.proofs.laws.an_analysis_is_accepted.Goals as goal

pub returns : goal.returns
returns c = analysis_accepted
