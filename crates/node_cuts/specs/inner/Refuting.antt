-- What is told of one set of nodes.
use Rattle.std.specs.Prelude.{ℕ, ◌*◌, nat_lt, Bool}
use Rattle.schedule.specs.{Links.TopologyValue, Placed.PlacementValue}
use Rattle.node_cuts.specs.{declared.sets.Sets.Sets, Sides.NodeSet, Cuts.{need_of, width_by}}

-- more chunks have to come in than can in so many rounds
abbrev pub cut_refutes : Sets → NodeSet → TopologyValue → PlacementValue → PlacementValue → ℕ → Bool
cut_refutes sets u t pre post rounds = nat_lt (width_by sets u t * rounds) (need_of u pre post)
