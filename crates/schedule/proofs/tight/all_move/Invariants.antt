use Rattle.std.{proofs.Common.{◌≡◌, ◌-◌, drop}, specs.List.list_all}
use Rattle.schedule.specs.{Running.after, Solving.moves}
use Rattle.schedule.proofs.tight.all_move.Given as goal

abbrev pub invariant-loop-hop : goal.invariant-loop-hop
invariant-loop-hop l = list_all (λ h. moves (after l.pre l.schedule (h.step - 1)) h) (drop l.hop-index l.hop-items) ≡ list_all (λ h. moves (after l.pre l.schedule (h.step - 1)) h) l.schedule.sends
