use Rattle.std.proofs.{Common.arith, lemmas.List.FromFn.length-map-range_with_len}
use Rattle.collective_spec.proofs.layout.Layout.placement.Goals as goal

pub of_cells-requires : goal.of_cells-requires
of_cells-requires c = grind (arith, length-map-range_with_len)
