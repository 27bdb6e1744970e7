use Rattle.std.{proofs.Common.{◌≡◌, ◌++◌, map, take}, specs.List.{flat_map, range_with_len}}
use Rattle.send_encoding.specs.Variables.{sent, link_number}
use Rattle.round_encoding.proofs.carrying.sends_over_group.Given as goal

abbrev pub invariant-loop-chunk : goal.invariant-loop-chunk
invariant-loop-chunk l = l.inputs.items ≡ flat_map (λ c. map (λ link. sent l.variables c (link_number l.variables link) l.step) l.group.links) (range_with_len 0 l.chunk)

abbrev pub invariant-loop-link : goal.invariant-loop-link
invariant-loop-link l = l.inputs.items ≡ l.initial.inputs.items ++ map (λ link. sent l.variables l.chunk (link_number l.variables link) l.step) (take l.link-index l.link-items)
