use Rattle.std.proofs.Common.{◌≡◌, take, filter, not}
use Rattle.schedule.specs.Links.{has_link}
use Rattle.link_faults.proofs.narrowing.links_without.Given as goal

abbrev pub invariant-loop-link : goal.invariant-loop-link
invariant-loop-link l = l.links.items ≡ filter (λ link. not (has_link l.lost link)) (take l.link-index l.group.links)
