-- The size of a question bounds that of each candidate within its limits.
use Rattle.std.proofs.{Common.{ℕ, ◌+◌, ◌-◌, ◌*◌, ◌≤◌, length, arith}, lemmas.{Nat.mul-le, List.Sums.sum_by-le-sum_by}}
use Rattle.schedule.specs.Links.{GroupValue, usable_links}
use Rattle.collective_spec.proofs.{Sized.before_among, Chunks.chunks_more}
use Rattle.candidate_order.specs.{declared.candidate.Candidate.Candidate, Frontiers.{QuestionValue, IsWithin, instance_for}}
use Rattle.round_encoding.specs.Candidates.{group_size, size_of as candidate_size, size_limit}
use Rattle.candidate_formula.specs.{Sizes.{most_chunks, size_of}, Questions.IsSmallQuestion}

-- a group's counters have no more variables where there are no more chunks, steps and extra rounds
group_more : (chunks steps extra most_c most_s most_e : ℕ) → chunks ≤ most_c → steps ≤ most_s → extra ≤ most_e → (group : GroupValue) → group_size chunks steps extra group ≤ group_size most_c most_s most_e group
group_more chunks steps extra most_c most_s most_e c s e group =
    let l : ℕ = length group.links in
    let w : ℕ = group.width in
    let rounds : w * (1 + extra) ≤ w * (1 + most_e) = mul-le w (1 + extra) w (1 + most_e) (omega arith) (omega (arith, e)) in
    mul-le (l * chunks * steps) (w * (1 + extra) + 1) (l * most_c * most_s) (w * (1 + most_e) + 1)
    (mul-le (l * chunks) steps (l * most_c) most_s (mul-le l chunks l most_c (omega arith) c) s) (omega (arith, rounds))

pub bounded : (q : QuestionValue) (x : Candidate) → IsWithin q x → candidate_size q.topology (instance_for q x).pre x.s x.r ≤ size_of q
bounded q x w =
    let chunks : ℕ = (instance_for q x).pre.chunks in
    let extra : ℕ = x.r - x.s in
    let l : ℕ = length (usable_links q.topology) in
    let counted = (before_among q.spec q.topology.nodes x.c).of_chunks in
    let more = chunks_more q.spec q.topology.nodes x.c q.limits.max_c w.chunks in
    let few : chunks ≤ most_chunks q = omega (arith, counted, more) in
    let rounds = w.rounds in
    let few_extra : extra ≤ q.limits.k = omega (arith, rounds) in
    let links : chunks * l * x.s ≤ most_chunks q * l * q.limits.max_s = mul-le (chunks * l) x.s (most_chunks q * l) q.limits.max_s (mul-le chunks l (most_chunks q) l few (omega arith)) w.steps in
    let groups = sum_by-le-sum_by (group_size chunks x.s extra) (group_size (most_chunks q) q.limits.max_s q.limits.k) q.topology.groups (group_more chunks x.s extra (most_chunks q) q.limits.max_s q.limits.k few w.steps few_extra) in
    omega (arith, links, groups)

pub candidate_small : (q : QuestionValue) (x : Candidate) → IsSmallQuestion q → IsWithin q x → candidate_size q.topology (instance_for q x).pre x.s x.r ≤ size_limit
candidate_small q x ok w = let all = bounded q x w in let size = ok.size in omega (arith, all, size)
