use Rattle.std.{proofs.Common.{◌≡◌, ◌++◌, ◌∷◌, take}, specs.List.flat_map}
use Rattle.topology_text.specs.Spelling.{name_at}
use Rattle.replay_text.proofs.order.push_movers.Given as goal

abbrev pub invariant-loop-node : goal.invariant-loop-node
invariant-loop-node l = l.out.items ≡ l.initial.out.items ++ flat_map (λ node. 32 ∷ name_at l.names node) (take l.node-index l.moves)
