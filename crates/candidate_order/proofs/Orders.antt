-- The order of the search, and what is no worse, are orders.
use Rattle.std.proofs.{Common.{◌≡◌, ℕ, ◌*◌, ◌≤◌, ◌⊎◌, inl, inr, List, ◌∙◌, arith, nat_le}, lemmas.Bool.{cases_order, and_parts, leb-true}}
use Rattle.collective_spec.specs.declared.kind.Kind.{Kind}
use Rattle.candidate_order.specs.{declared.candidate.Candidate.Candidate, Ranges.LimitsValue, Costs.{NoWorse, Before}, Listed.{Within, IsListed, AreAllowed}, Frontiers.{QuestionValue, IsWithin}}
use Rattle.candidate_order.proofs.Costing.{cost_upto, cost_below_left, cost_below_right, same_rounds}

abbrev pub HasChunk : Candidate → Type 0
HasChunk x = 1 ≤ x.c

-- a candidate within the limits has a chunk
pub has_chunk : (q : QuestionValue) (x : Candidate) → IsWithin q x → HasChunk x
has_chunk q x within = leb-true 1 x.c (and_parts (nat_le 1 x.c) _ within.allowed).0

pub Before-irrefl : (x : Candidate) → Before x x → ⊥
Before-irrefl x (inl fewer) = absurd (omega arith)
Before-irrefl x (inr (same, inl lower)) = absurd (omega arith)
Before-irrefl x (inr (same, inr (cost, fewer))) = absurd (omega arith)

pub Before-trans : (a b c : Candidate) → 1 ≤ a.c → 1 ≤ b.c → 1 ≤ c.c → Before a b → Before b c → Before a c
Before-trans a b c some1 some2 some3 (inl h) (inl k) = inl (omega arith)
Before-trans a b c some1 some2 some3 (inl h) (inr k) = inl (omega arith)
Before-trans a b c some1 some2 some3 (inr h) (inl k) = inl (omega arith)
Before-trans a b c some1 some2 some3 (inr (h, inl p)) (inr (k, inl q)) =
    inr (h ∙ k, inl (cost_below_left a.r a.c b.r b.c c.r c.c (omega arith) p (omega arith)))
Before-trans a b c some1 some2 some3 (inr (h, inl p)) (inr (k, inr q)) =
    inr (h ∙ k, inl (cost_below_left a.r a.c b.r b.c c.r c.c (omega arith) p (omega arith)))
Before-trans a b c some1 some2 some3 (inr (h, inr p)) (inr (k, inl q)) =
    inr (h ∙ k, inl (cost_below_right a.r a.c b.r b.c c.r c.c (omega arith) (omega arith) q))
Before-trans a b c some1 some2 some3 (inr (h, inr p)) (inr (k, inr q)) = grind (arith, cost_upto a.r a.c b.r b.c c.r c.c (omega arith) (omega arith) (omega arith), cost_upto c.r c.c b.r b.c a.r a.c (omega arith) (omega arith) (omega arith))

same_candidate : (a b : Candidate) → a.s ≡ b.s → a.r ≡ b.r → a.c ≡ b.c → a ≡ b
same_candidate a b steps rounds chunks = λ i. record { s = steps i; r = rounds i; c = chunks i }

pub Before-total : (a b : Candidate) → 1 ≤ a.c → 1 ≤ b.c → Before a b ⊎ ((a ≡ b) ⊎ Before b a)
Before-total a b some1 some2 =
    elim (cases_order a.s b.s) [
      | inr (inl fewer) ↦ inl (inl fewer)
      | inr (inr more) ↦ inr (inr (inl more))
      | inl steps ↦ elim (cases_order (a.r * b.c) (b.r * a.c)) [
        | inr (inl lower) ↦ inl (inr (steps, inl lower))
        | inr (inr higher) ↦ inr (inr (inr (omega arith, inl higher)))
        | inl cost ↦ elim (cases_order a.c b.c) [
          | inr (inl fewer) ↦ inl (inr (steps, inr (cost, fewer)))
          | inr (inr more) ↦ inr (inr (inr (omega arith, inr (omega arith, more))))
          | inl chunks ↦ inr (inl (same_candidate a b steps (same_rounds a.r b.r a.c (omega arith) (rw (← chunks) at cost)) chunks))
        ]
      ]
    ]

pub NoWorse-trans : (a b c : Candidate) → 1 ≤ b.c → NoWorse a b → NoWorse b c → NoWorse a c
NoWorse-trans a b c some h k =
    (omega arith, cost_upto a.r a.c b.r b.c c.r c.c (omega arith) h.1 k.1)

pub listed-within : (limits : LimitsValue) (kind : Kind) (nodes step : ℕ) (counts : List ℕ) → 1 ≤ step → step ≤ limits.max_s → AreAllowed limits kind nodes counts → (x : Candidate) → (IsListed limits.k step counts x → (x.s ≡ step) × Within limits kind nodes x) × ((x.s ≡ step) × Within limits kind nodes x → IsListed limits.k step counts x)
listed-within limits kind nodes step counts some upto allowed x = (
  λ listed.
      let count = (allowed x.c).0 listed.chunks in (
        listed.steps,
        record {
          some_steps = omega (arith, listed.steps);
          steps = omega (arith, listed.steps);
          all_rounds = omega (arith, listed.steps, listed.all_rounds);
          rounds = omega (arith, listed.steps, listed.rounds);
          chunks = count.0;
          allowed = count.1;
        },
      ),
  λ within. record {
    steps = within.0;
    all_rounds = omega (arith, within.0, within.1.all_rounds);
    rounds = omega (arith, within.0, within.1.rounds);
    chunks = (allowed x.c).1 (within.1.chunks, within.1.allowed);
  },
)
