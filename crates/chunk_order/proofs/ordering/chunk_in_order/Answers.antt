use Rattle.std.proofs.{Common.{◌<◌, ◌∙◌, sym, arith}, lemmas.List.Elements.All-same}
use Rattle.chunk_order.proofs.{Alikeness.watch_below, Pushing.class_below}
use Rattle.chunk_order.proofs.ordering.chunk_in_order.Goals as goal

pub class_in_order-requires-clause-node : goal.class_in_order-requires-clause-node
class_in_order-requires-clause-node c =
    let i = c.args.instance.now in
    omega (arith, watch_below i.pre i.post c.args.chunk c.in-Some.node (sym c.in-Some.ensures), c.requires.nodes, c.requires.map)

pub class_in_order-requires-clause-chunks : goal.class_in_order-requires-clause-chunks
class_in_order-requires-clause-chunks c =
    let i = c.args.instance.now in
    let chunks = c.args.map.now.chunks in
    All-same (λ chunk. chunk < chunks) c.deref.result.now _ (c.deref.ensures.value ∙ c.in_ok-class.ensures) (class_below i.pre i.post c.args.chunk chunks c.requires.before)
