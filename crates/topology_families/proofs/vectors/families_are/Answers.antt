use Rattle.std.{proofs.Common.refl, specs.Fmt.digits}
use Rattle.topology_text.specs.Spelling.{spelling}
use Rattle.topology_families.proofs.vectors.families_are.Goals as goal

pub returns : goal.returns
unfolding spelling digits
returns c = record { torus = refl; mesh = refl; switch = refl; boxes = refl }
