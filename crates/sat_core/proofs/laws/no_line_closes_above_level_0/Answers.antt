use Rattle.sat_core.proofs.AtConflict.{no_line_closes}
use Rattle.sat_core.proofs.laws.no_line_closes_above_level_0.Goals as goal

pub returns : goal.returns
returns c = no_line_closes
