use Rattle.link_faults.proofs.Fitting.{fits_before}
use Rattle.link_faults.proofs.laws.what_fits_after_a_fault_did_before.Goals as goal

pub returns : goal.returns
returns c = fits_before
