use Rattle.sat_core.proofs.Modelled.{model_satisfies}
use Rattle.sat_core.proofs.laws.a_total_core_has_a_model.Goals as goal

pub returns : goal.returns
returns c = model_satisfies
