use Rattle.std.{proofs.Common.{◌≡◌, ◌/◌, ◌%◌, map}, specs.List.{position_or_len, range_with_len}}
use Rattle.schedule.specs.Placed.{same_pair}
use Rattle.send_encoding.proofs.link_numbers.LinkNumbers.of.Given as goal

abbrev pub invariant-loop-place : goal.invariant-loop-place
invariant-loop-place l = l.numbers.items ≡ map (λ k. position_or_len (same_pair (k / 16, k % 16)) l.links.items) (range_with_len 0 l.place)
