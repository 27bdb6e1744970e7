use Rattle.std.proofs.Common.{◌≡◌, drop, find, not}
use Rattle.schedule.specs.{Links.is_usable, Sends.link_of}
use Rattle.schedule.proofs.judge.first_unlinked.Given as goal

abbrev pub invariant-loop-hop : goal.invariant-loop-hop
invariant-loop-hop l = find (λ h. not (is_usable l.topology (link_of h))) (drop l.hop-index l.sends) ≡ find (λ h. not (is_usable l.topology (link_of h))) l.sends
