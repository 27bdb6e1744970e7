use Rattle.std.proofs.Common.{refl}
use Rattle.topology_families.proofs.vectors.family_sizes_are.Goals as goal

pub returns : goal.returns
returns c = record { cube = refl; torus = refl; mesh = refl; switch = refl; boxes = refl }
