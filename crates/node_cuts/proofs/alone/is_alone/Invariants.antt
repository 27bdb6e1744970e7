use Rattle.std.{proofs.Common.{◌≡◌, ◌&&◌, false, ◌==◌, not}, specs.List.{list_any, range_with_len}}
use Rattle.schedule.specs.{Links.has_link, Judging.group_at}
use Rattle.node_cuts.proofs.alone.is_alone.Given as goal

abbrev pub invariant-loop-other : goal.invariant-loop-other
invariant-loop-other l = list_any (λ other. not (other == l.group) && list_any (has_link (group_at l.topology l.group)) (group_at l.topology other).links) (range_with_len 0 l.other) ≡ false
