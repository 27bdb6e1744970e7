use Rattle.std.proofs.{Common.{◌++◌, map, ap, ◌∙◌}, lemmas.List.take_all}
use Rattle.node_programs.{specs.Queues.empty_queue, proofs.Counts.queues_counted}
use Rattle.node_programs.proofs.queues.push_queues.Goals as goal

pub returns : goal.returns
returns c =
    let shown = c.deref-count-items.result.now in
    c.loop-count.invariant ∙ ap (λ counts. c.args.queues.now.items ++ map empty_queue counts) (take_all c.loop-count.count-index shown c.loop-count-test.false ∙ c.deref-count-items.ensures.value ∙ c.in_ok-counts.ensures)
    ∙ ap (λ queues. c.args.queues.now.items ++ queues) (queues_counted c.args.nodes c.args.ops.now)
