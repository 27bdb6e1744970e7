use Rattle.std.{proofs.Common.{◌≡◌, map}, specs.List.range_with_len}
use Rattle.node_cuts.specs.Holders.{nodes_with}
use Rattle.node_cuts.proofs.holders.all_holders.Given as goal

abbrev pub invariant-loop-chunk : goal.invariant-loop-chunk
invariant-loop-chunk l = l.all.items ≡ map (λ chunk. record { before = nodes_with l.instance.pre chunk; after = nodes_with l.instance.post chunk }) (range_with_len 0 l.chunk)
