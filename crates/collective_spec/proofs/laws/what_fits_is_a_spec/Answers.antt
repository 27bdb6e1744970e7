use Rattle.collective_spec.proofs.Sized.{fitting_kind, fitting_spec}
use Rattle.collective_spec.proofs.laws.what_fits_is_a_spec.Goals as goal

pub returns : goal.returns
returns c = record { kind = fitting_kind; spec = fitting_spec }
