use Rattle.std.proofs.Common.{◌∙◌, sym, arith}
use Rattle.inversion.proofs.Evening.{first_due, said_even, said_missing, said_twice}
use Rattle.inversion.proofs.counting.counts_verdict.Goals as goal

pub returns-in_default : goal.returns-in_default
returns-in_default c = λ bags kept. said_even c.args.store.now c.args.demand.now c.first_uneven.ensures.limits c.requires.chunks c.requires.nodes bags kept c.in_default.ensures.first

pub bag-requires-clause-chunk : goal.bag-requires-clause-chunk
bag-requires-clause-chunk c =
    (first_due c.args.store.now c.args.demand.now c.first_uneven.ensures.limits c.requires.chunks c.requires.nodes (c.in-Some.chunk, c.in-Some.node, c.in-Some.of) c.in-Some.ensures.first).pair.chunk

pub bag-requires-clause-node : goal.bag-requires-clause-node
bag-requires-clause-node c =
    (first_due c.args.store.now c.args.demand.now c.first_uneven.ensures.limits c.requires.chunks c.requires.nodes (c.in-Some.chunk, c.in-Some.node, c.in-Some.of) c.in-Some.ensures.first).pair.node

pub returns-then-count-eq0 : goal.returns-then-count-eq0
returns-then-count-eq0 c = λ bags kept.
    said_missing c.args.store.now c.args.demand.now c.first_uneven.ensures.limits c.requires.chunks c.requires.nodes bags kept (c.in-Some.chunk, c.in-Some.node, c.in-Some.of) c.bag.result
    c.in-Some.ensures.first c.bag.ensures.bag (sym c.count.ensures.count ∙ c.if-count-eq0.true)

pub returns-else-count-eq0 : goal.returns-else-count-eq0
returns-else-count-eq0 c = λ bags kept.
    said_twice c.args.store.now c.args.demand.now c.first_uneven.ensures.limits c.requires.chunks c.requires.nodes bags kept (c.in-Some.chunk, c.in-Some.node, c.in-Some.of) c.bag.result
    c.in-Some.ensures.first c.bag.ensures.bag (omega (arith, c.count.ensures.count, c.if-count-eq0.false))
