use Rattle.std.proofs.{Common.{◌*◌, ◌∙◌, ap, arith}, lemmas.List.FromFn.length-map-range_with_len}
use Rattle.schedule.specs.Cells.{marked}
use Rattle.collective_spec.{specs.Patterns.in_copies, proofs.Laying.placed_by_cells}
use Rattle.collective_spec.proofs.pattern.copied.Goals as goal

pub of_cells-requires : goal.of_cells-requires
of_cells-requires c = grind (arith, length-map-range_with_len)

pub returns : goal.returns
returns c =
    let p = c.args.placement.now in
    let cells = c.in_ok-cells.cells.items in
    c.of_cells.ensures ∙ ap (λ nodes. marked (c.args.base * c.args.c) nodes cells) c.nodes-nodes.ensures.nodes ∙ placed_by_cells (in_copies c.args.base p) (c.args.base * c.args.c) p.nodes cells c.in_ok-cells.ensures
