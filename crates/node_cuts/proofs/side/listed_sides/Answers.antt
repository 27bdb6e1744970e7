use Rattle.std.proofs.{Common.arith, lemmas.List.{append-nil, Elements.same_from_all_zip}}
use Rattle.node_cuts.proofs.side.listed_sides.Goals as goal

pub loop-side-init : goal.loop-side-init
loop-side-init c = grind (arith, same_from_all_zip, append-nil)
