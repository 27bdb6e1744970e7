use Rattle.std.proofs.Common.{◌∙◌, None, cond, sym, ap}
use Rattle.bag_runs.specs.Stores.{StoreValue, bags_in}
use Rattle.inversion.proofs.{Evening.uneven_told, Uneven.uneven_node}
use Rattle.inversion.proofs.counting.uneven_at.Goals as goal

pub returns-then-holds : goal.returns-then-holds
returns-then-holds c =
    let s : StoreValue = c.args.store.now in
    c.uneven_of.ensures ∙ uneven_told s c.args.chunk c.args.node c.nodes.result c.bag.result c.nodes.ensures.nodes c.bag.ensures.bag
    ∙ sym (ap (λ b. cond b (uneven_node (bags_in s (c.args.chunk, c.args.node)) s.nodes) None) (sym c.holds.ensures.held ∙ c.if-holds.true))
