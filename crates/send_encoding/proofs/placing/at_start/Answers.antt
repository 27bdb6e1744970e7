use Rattle.std.proofs.{Common.{◌≡◌, ◌∷◌, [], arith, ap, ◌∙◌, if◌then◌else◌}, lemmas.List.Concat.flat_map_single}
use Rattle.schedule.specs.Placed.{all_pairs, holds}
use Rattle.cnf_formula.specs.{Literals.negation, Formulas.with_clauses}
use Rattle.send_encoding.{specs.{Variables.{arrival}, inner.Parts.node_starts}, proofs.Picking.pairs_of_loops}
use Rattle.send_encoding.proofs.placing.at_start.Goals as goal

pub returns : goal.returns
returns c =
    let m = c.args.map.now in
    let pre = c.args.pre.now in
    let end : c.loop-chunk.chunk ≡ m.chunks = omega (arith, c.chunks-chunk-end.ensures.chunks) in
    pairs_of_loops c.args.formula.now c.loop-chunk.formula (node_starts m c.args.pre.now) m.chunks m.nodes c.loop-chunk.chunk end c.loop-chunk.invariant
    ∙ ap (with_clauses c.args.formula.now) (flat_map_single (λ (c, n). (if holds pre (c, n) then arrival m c n 0 else negation (arrival m c n 0)) ∷ []) (all_pairs m.chunks m.nodes))
