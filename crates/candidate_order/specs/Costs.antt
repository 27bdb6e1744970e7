-- Costs of candidates (Cai et al., PPoPP 2021, latency and bandwidth): steps, and rounds for each chunk, compared as whole numbers.
use Rattle.std.specs.{Prelude.{◌≡◌, ◌*◌, ◌<◌, ◌≤◌, ◌⊎◌}, Ordering.{nat_cmp, ordering_then}, declared.cmp.Ordering.Ordering}
use Rattle.candidate_order.specs.declared.candidate.Candidate.{Candidate}

-- a costs no more steps than b, and no more rounds for each chunk
abbrev pub NoWorse : Candidate → Candidate → Type 0
NoWorse a b = (a.s ≤ b.s) × (a.r * b.c ≤ b.r * a.c)

-- and fewer of one of them
abbrev pub Better : Candidate → Candidate → Type 0
Better a b = NoWorse a b × ((a.s < b.s) ⊎ (a.r * b.c < b.r * a.c))

-- a is tried before b: it has fewer steps; or as many, and the smaller cost; or the same cost, and the smaller chunk count
abbrev pub Before : Candidate → Candidate → Type 0
Before a b = (a.s < b.s) ⊎ ((a.s ≡ b.s) × ((a.r * b.c < b.r * a.c) ⊎ ((a.r * b.c ≡ b.r * a.c) × (a.c < b.c))))

-- by cost, then by chunk count, then by rounds
abbrev pub search_cmp : Candidate → Candidate → Ordering
search_cmp a b = ordering_then (ordering_then (nat_cmp (a.r * b.c) (b.r * a.c)) (nat_cmp a.c b.c)) (nat_cmp a.r b.r)
