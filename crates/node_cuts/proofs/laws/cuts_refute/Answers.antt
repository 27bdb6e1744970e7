use Rattle.node_cuts.proofs.Crossing.{needed_comes_in, cut_says, first_says}
use Rattle.node_cuts.proofs.laws.cuts_refute.Goals as goal

pub returns : goal.returns
returns c = record { needed = needed_comes_in; refuted = cut_says; first = first_says }
