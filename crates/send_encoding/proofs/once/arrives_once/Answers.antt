use Rattle.std.{proofs.Common.{arith, ap, ◌∙◌}, specs.List.{flat_map, range_with_len}}
use Rattle.cnf_formula.{specs.Formulas.with_clauses, proofs.Growing.grows_more}
use Rattle.cardinality.specs.Counting.{at_most_one_of}
use Rattle.send_encoding.{specs.{Sending.sends_into, inner.Parts.node_once}, proofs.{Picking.pairs_of_loops, Within.into_within}}
use Rattle.send_encoding.proofs.once.arrives_once.Goals as goal

pub at_most_one-requires : goal.at_most_one-requires
at_most_one-requires c = grind (arith, into_within)

pub loop-node-preserved : goal.loop-node-preserved
loop-node-preserved c =
    let m = c.args.map.now in
    let chunk = c.loop-chunk.chunk in
    let node = c.loop-node.node in
    grows_more c.loop-chunk.formula c.loop-node.formula c.loop-index.formula (λ n. node_once m (chunk, n)) 0 node node (omega arith) c.loop-node.invariant
    (c.loop-index.invariant ∙ ap (λ n. with_clauses c.loop-node.formula (flat_map (λ s. at_most_one_of (sends_into m chunk node s)) (range_with_len 1 n))) (omega (arith, c.steps-index-end.ensures.steps)))

pub returns : goal.returns
returns c = pairs_of_loops c.args.formula.now c.loop-chunk.formula (node_once c.args.map.now) c.args.map.now.chunks c.args.map.now.nodes c.loop-chunk.chunk (omega (arith, c.chunks-chunk-end.ensures.chunks)) c.loop-chunk.invariant
