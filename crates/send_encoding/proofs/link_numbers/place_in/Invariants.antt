use Rattle.std.{proofs.Common.{◌≡◌, ◌+◌, drop}, specs.List.position_or_len}
use Rattle.schedule.specs.Placed.{same_pair}
use Rattle.send_encoding.proofs.link_numbers.place_in.Given as goal

abbrev pub invariant-loop-number : goal.invariant-loop-number
invariant-loop-number l = l.number + position_or_len (same_pair l.link) (drop l.number l.links) ≡ position_or_len (same_pair l.link) l.links
