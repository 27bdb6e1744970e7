-- How large a search is at most.
use Rattle.std.proofs.{Common.{ℕ, ◌+◌, ◌*◌, ◌<◌, ◌≤◌, length, get_or, take, arith, All, sum_by}, lemmas.{Nat.mul-le, List.Sums.{sum_by-le, sum_by_more_le, sum_by-take-le}}}
use Rattle.schedule.specs.Links.{GroupValue, TopologyValue, IsTopology}
use Rattle.round_encoding.specs.Candidates.{group_size}
use Rattle.candidate_formula.proofs.Links.{few_links}

pub few_counted : (l c s : ℕ) → l ≤ 256 → c < 65536 → s ≤ 8 → l * c * s ≤ 134217728
few_counted l c s links chunks steps = mul-le (l * c) s 16777216 8 (mul-le l c 256 65536 links (omega (arith, chunks))) steps

pub few_sent : (c l s : ℕ) → c < 65536 → l ≤ 256 → s ≤ 8 → c * l * s ≤ 134217728
few_sent c l s chunks links steps = mul-le (c * l) s 16777216 8 (mul-le c l 65536 256 (omega (arith, chunks)) links) steps

pub few_in_group : (n w e : ℕ) → n ≤ 134217728 → w ≤ 16 → e ≤ 8 → n * (w * (1 + e) + 1) ≤ 19461570560
few_in_group n w e counted width extra = grind (arith, mul-le)

module _ (t : TopologyValue) (is : IsTopology t) (chunks steps extra : ℕ) (c : chunks < 65536) (s : steps ≤ 8) (e : extra ≤ 8) where
  each_small : All (λ group. group_size chunks steps extra group ≤ 19461570560) t.groups
  each_small = grind (arith, few_in_group, few_counted, few_links)

  pub groups_small : sum_by (group_size chunks steps extra) t.groups ≤ 4982162063360
  groups_small = grind (arith, sum_by-le (group_size chunks steps extra) 19461570560 t.groups each_small, is.limit)

  -- in a loop, what is added so far and the next
  pub groups_more : (k : ℕ) (d : GroupValue) → k < length t.groups → sum_by (group_size chunks steps extra) (take k t.groups) + group_size chunks steps extra (get_or t.groups k d) ≤ 4982162063360
  groups_more k d low = let part = sum_by_more_le (group_size chunks steps extra) t.groups k d low in let all = groups_small in omega (arith, part, all)

  pub groups_taken : (k : ℕ) → sum_by (group_size chunks steps extra) (take k t.groups) ≤ 4982162063360
  groups_taken k = let part = sum_by-take-le (group_size chunks steps extra) t.groups k in let all = groups_small in omega (arith, part, all)
