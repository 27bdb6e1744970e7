use Rattle.std.{proofs.Common.{◌≡◌, ◌++◌, ◌∷◌}, specs.List.{flat_map, range_with_len}}
use Rattle.replay_text.specs.inner.Appended.{bag_word}
use Rattle.replay_text.proofs.bags.push_bags.Given as goal

abbrev pub invariant-loop-chunk : goal.invariant-loop-chunk
invariant-loop-chunk l = l.out.items ≡ l.initial.out.items ++ flat_map (λ chunk. 32 ∷ bag_word l.store l.node chunk) (range_with_len 0 l.chunk)
