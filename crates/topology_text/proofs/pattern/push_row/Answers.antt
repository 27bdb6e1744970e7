use Rattle.std.proofs.{Common.{◌++◌, ◌∷◌, [], map, take, get_or, sym, ap, ◌∙◌}, lemmas.List.map_more}
use Rattle.topology_text.proofs.Printed.{appended_more}
use Rattle.topology_text.proofs.pattern.push_row.Goals as goal

pub loop-node-preserved : goal.loop-node-preserved
loop-node-preserved c =
    let nodes = c.args.nodes.now in
    let i = c.loop-node.node-index in
    appended_more _ _ _ _ _ _ c.loop-node.invariant c.in_ok-push.ensures.items (map_more (λ n. (c.args.chunk, n)) nodes i 0 c.loop-node-test.true ∙ ap (λ g. map (λ n. (c.args.chunk, n)) (take i nodes) ++ (g, get_or nodes i 0) ∷ []) (sym c.from.ensures))
