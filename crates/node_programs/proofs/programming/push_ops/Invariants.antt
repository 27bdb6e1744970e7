use Rattle.std.proofs.Common.{if◌then◌else◌, take}
use Rattle.node_programs.{specs.inner.Pushed.{send_of, take_of}, proofs.Pushing.Pushed}
use Rattle.node_programs.proofs.programming.push_ops.Given as goal

abbrev pub invariant-loop-hop : goal.invariant-loop-hop
invariant-loop-hop l = Pushed (if l.take then take_of l.adding else send_of) (λ h. if l.take then h.to else h.from) l.initial.programs.items l.programs.items (take l.hop-index l.sends)
