-- A candidate whose size is within the limit has few variables.
use Rattle.std.proofs.{Common.{◌≡◌, ℕ, ◌+◌, ◌-◌, ◌*◌, ◌<◌, ◌≤◌, List, [], ◌∷◌, arith, sum_by}, lemmas.{List.Sums.sum_by-cons, Nat.mul-le}, Math.Nat.{mul-add, mul_comm, mul_assoc}}
use Rattle.schedule.specs.{Links.{GroupValue, TopologyValue}, Placed.PlacementValue}
use Rattle.send_encoding.specs.Variables.{map_of, arrivals, sends}
use Rattle.round_encoding.specs.{Frames.{Frame, frame_of, own_variables}, inner.Counts.room, Candidates.{IsCandidate, group_size, size_of}}

one_group : (f : Frame) (group : GroupValue) → f.map.steps * room f group ≡ group_size f.map.chunks f.map.steps f.extra group
one_group f group = grind (arith, mul_assoc, mul_comm)

pub all_groups : (f : Frame) (groups : List GroupValue) → f.map.steps * sum_by (room f) groups ≡ sum_by (group_size f.map.chunks f.map.steps f.extra) groups
all_groups f [] = omega arith
all_groups f (group ∷ groups) = grind (arith, mul-add f.map.steps (room f group) (sum_by (room f) groups), one_group f group, sum_by-cons (room f) group groups, sum_by-cons (group_size f.map.chunks f.map.steps f.extra) group groups, all_groups f groups)

module _ (t : TopologyValue) (pre post : PlacementValue) (steps rounds : ℕ) (ok : IsCandidate t pre post steps rounds) (size : size_of t pre steps rounds ≤ 2000000) where
  pub cells : pre.chunks * t.nodes ≤ 256 * 16
  cells = mul-le pre.chunks t.nodes 256 16 ok.few_chunks ok.topology.few

  few_arrivals : arrivals (map_of t pre steps) ≤ 256 * 16 * 17
  few_arrivals = mul-le (pre.chunks * t.nodes) (steps + 1) (256 * 16) 17 cells (omega (arith, ok.few))

  few_extra : steps * (rounds - steps) ≤ 16 * 8
  few_extra = mul-le steps (rounds - steps) 16 8 ok.few (omega (arith, ok.most))

  pub few_counted : steps * (rounds - steps) * (rounds - steps + 1) ≤ 16 * 8 * 9
  few_counted = mul-le (steps * (rounds - steps)) (rounds - steps + 1) (16 * 8) 9 few_extra (omega (arith, ok.most))

  pub few_sends : arrivals (map_of t pre steps) + sends (map_of t pre steps) < 2097152
  few_sends = omega (arith, few_arrivals, size)

  pub few_variables : own_variables (frame_of t pre steps rounds) + steps * (rounds - steps) * (rounds - steps + 1) + steps * sum_by (room (frame_of t pre steps rounds)) t.groups < 2097152
  few_variables = omega (arith, few_arrivals, few_extra, few_counted, all_groups (frame_of t pre steps rounds) t.groups, size)
