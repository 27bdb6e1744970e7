use Rattle.std.proofs.Common.{◌≡◌, arith, rules}
use Rattle.cnf_formula.{specs.Formulas.with_clauses, proofs.Growing.grows_more}
use Rattle.send_encoding.specs.inner.Parts.{node_ends}
use Rattle.send_encoding.proofs.placing.at_end.Goals as goal

pub loop-node-preserved : goal.loop-node-preserved
loop-node-preserved c =
    let node = c.loop-node.node in
    let here : c.if-holds.formula ≡ with_clauses c.loop-node.formula (node_ends c.args.map.now c.args.post.now (c.loop-chunk.chunk, node)) = search rules in
    grows_more c.loop-chunk.formula c.loop-node.formula c.if-holds.formula (λ n. node_ends c.args.map.now c.args.post.now (c.loop-chunk.chunk, n)) 0 node node (omega arith) c.loop-node.invariant here
