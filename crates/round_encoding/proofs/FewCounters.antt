-- The counters of a candidate are small.
use Rattle.std.proofs.lemmas.{Bool.Decides.nat_tests, Grind.common_steps}
use Rattle.std.proofs.Common.{◌≡◌, ℕ, zero, suc, ◌+◌, ◌*◌, ◌<◌, ◌≤◌, Bool, true, false, List, [], ◌∷◌, map, get_or, refl, ap, arith, length-append, if◌then◌else◌, flat_map, nat_lt, sum_by, All}
use Rattle.std.{proofs.{Math.Nat.{mul-le-mul_left, mul-le-mul_right}, lemmas.{List.{FromFn.length-map-range_with_len, Sums.{sum_by-cons, sum_by-append}}, Nat.mul-le}}, specs.List.range_with_len}
use Rattle.schedule.specs.Links.{GroupValue, TopologyValue, IsGroup}
use Rattle.send_encoding.{specs.Variables.steps_of, proofs.Grid.rows_length}
use Rattle.round_encoding.{specs.{inner.Counts.room, Frames.{Frame, extra_round}, Rounding.{Count, count_of_rounds, count_of_group, counts_in}}, proofs.{Carried.inputs_length, Counted.{rounds_counted, of_counts}, LowCounts.{space, IsLow}}}

module _ (f : Frame) (few : f.extra ≤ 8) where
  rounds_low : 0 < f.map.steps → 0 < f.extra → IsLow (count_of_rounds f)
  rounds_low steps extra = record { some = (rounds_counted f steps extra).some; low = omega (arith, few); says = λ o. omega arith }

  group_low : (s : ℕ) (group : GroupValue) → 0 < f.map.chunks → IsGroup group → IsLow (count_of_group f s group)
  group_low s group chunks ok = grind (arith, inputs_length, mul-le-mul_left, mul-le-mul_right, mul-le, length-map-range_with_len, length-append)

-- ---- together

space_of_rounds : (f : Frame) → space (count_of_rounds f) ≡ f.map.steps * f.extra * (f.extra + 1)
space_of_rounds f = ap (λ n. n * (f.extra + 1)) (rows_length (λ s. map (extra_round f s) (range_with_len 1 f.extra)) f.extra 1 f.map.steps (λ s. length-map-range_with_len (extra_round f s) 1 f.extra))

space_of_groups : (f : Frame) (s : ℕ) (groups : List GroupValue) → sum_by space (map (count_of_group f s) groups) ≡ sum_by (room f) groups
space_of_groups f s [] = refl
space_of_groups f s (group ∷ groups) = grind (arith, nat_tests, common_steps, space, inputs_length, sum_by-cons, space_of_groups f s groups)

space_of_steps : (f : Frame) (groups : List GroupValue) (a n : ℕ) → sum_by space (flat_map (λ s. map (count_of_group f s) groups) (range_with_len a n)) ≡ n * sum_by (room f) groups
space_of_steps f groups a zero = omega arith
space_of_steps f groups a (suc n) = grind (arith, space, space_of_groups, sum_by-append, space_of_steps f groups (a + 1) n)

module _ (f : Frame) (t : TopologyValue) where
  abbrev own_rounds : Bool → List Count
  own_rounds b = if b then count_of_rounds f ∷ [] else []

  abbrev all_groups : List Count
  all_groups = flat_map (λ s. map (count_of_group f s) t.groups) (steps_of f.map)

  space_if : (b : Bool) → sum_by space (own_rounds b) ≤ f.map.steps * f.extra * (f.extra + 1)
  space_if true = omega (arith, sum_by-cons space (count_of_rounds f) [], space_of_rounds f)
  space_if false = omega arith

  pub counts_space : sum_by space (counts_in f t) ≤ f.map.steps * f.extra * (f.extra + 1) + f.map.steps * sum_by (room f) t.groups
  counts_space = omega (arith, sum_by-append space (own_rounds (nat_lt 0 f.extra)) all_groups, space_if (nat_lt 0 f.extra), space_of_steps f t.groups 1 f.map.steps)

  pub counts_low : f.extra ≤ 8 → 0 < f.map.steps → 0 < f.map.chunks → All IsGroup t.groups → All IsLow (counts_in f t)
  counts_low few steps chunks ok = of_counts IsLow f t (rounds_low f few steps) (λ s at i d low. group_low f few s (get_or t.groups i d) chunks (ok i d low))
