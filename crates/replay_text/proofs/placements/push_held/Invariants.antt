use Rattle.std.{proofs.Common.{◌≡◌, ◌++◌, ◌∷◌, filter, decimal}, specs.List.{flat_map, range_with_len}}
use Rattle.schedule.specs.Placed.{holds}
use Rattle.replay_text.proofs.placements.push_held.Given as goal

abbrev pub invariant-loop-chunk : goal.invariant-loop-chunk
invariant-loop-chunk l = l.out.items ≡ l.initial.out.items ++ flat_map (λ chunk. 32 ∷ decimal chunk) (filter (λ chunk. holds l.placement (chunk, l.node)) (range_with_len 0 l.chunk))
