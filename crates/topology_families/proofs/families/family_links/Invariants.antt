use Rattle.std.{proofs.Common.{◌≡◌, ◌/◌, ◌%◌, map}, specs.List.{filter, range_with_len}}
use Rattle.topology_families.specs.Family.{is_family_link}
use Rattle.topology_families.proofs.families.family_links.Given as goal

abbrev pub invariant-loop-place : goal.invariant-loop-place
invariant-loop-place l = l.links.items ≡ filter (is_family_link l.kind l.size) (map (λ k. (k / l.size, k % l.size)) (range_with_len 0 l.place))
