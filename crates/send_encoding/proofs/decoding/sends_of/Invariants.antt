use Rattle.std.{proofs.Common.{◌≡◌, ◌+◌, ◌++◌, take}, specs.List.{flat_map, range_with_len, enumerate_from}}
use Rattle.send_encoding.specs.{Sent.hop_over}
use Rattle.send_encoding.proofs.decoding.sends_of.Given as goal

abbrev pub invariant-loop-index : goal.invariant-loop-index
invariant-loop-index l = l.hops.items ≡ flat_map (λ s. flat_map (λ c. flat_map (hop_over l.map l.assignment s c) (enumerate_from 0 l.map.links)) (range_with_len 0 l.map.chunks)) (range_with_len 1 l.index)

abbrev pub invariant-loop-chunk : goal.invariant-loop-chunk
invariant-loop-chunk l = l.hops.items ≡ l.initial.hops.items ++ flat_map (λ c. flat_map (hop_over l.map l.assignment (l.index + 1) c) (enumerate_from 0 l.map.links)) (range_with_len 0 l.chunk)

abbrev pub invariant-loop-number : goal.invariant-loop-number
invariant-loop-number l = l.hops.items ≡ l.initial.hops.items ++ flat_map (hop_over l.map l.assignment (l.index + 1) l.chunk) (take l.number (enumerate_from 0 l.link-items))
