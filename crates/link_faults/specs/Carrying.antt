-- Which refutations a fault leaves standing. This project's own.
use Rattle.std.specs.{Prelude.{◌≡◌, ◌==◌, ◌&&◌, ℕ, ◌+◌, ◌≤◌, Bool, not, List, filter, nat_le}, List.list_any}
use Rattle.candidate_order.specs.{declared.candidate.Candidate.Candidate, Frontiers.{QuestionValue, IsSolvable}}
use Rattle.link_faults.specs.Narrowed.{narrowed}

-- as many steps, no fewer rounds, and no more chunks: where a has no schedule, b has none on fewer links
abbrev pub Carries : Candidate → Candidate → Type 0
Carries a b = (a.s ≡ b.s) × (b.r ≤ a.r) × (a.c ≤ b.c)

-- the same, as a test
abbrev pub is_carrier : Candidate → Candidate → Bool
is_carrier a b = a.s == b.s && (nat_le b.r a.r && nat_le a.c b.c)

-- at most 8 rounds more than steps, the most that limits allow: so many can be shared out, at most 9 to a step
abbrev pub HasFewRounds : Candidate → Type 0
HasFewRounds x = x.r ≤ x.s + 8

-- the same question after the fault
abbrev pub narrowed_question : QuestionValue → ℕ → ℕ → QuestionValue
narrowed_question q group width = record { topology = narrowed q.topology group width; spec = q.spec; limits = q.limits }

-- the rounds are few, and no schedule solves the candidate
pub record IsOldRefuted (q : QuestionValue) (x : Candidate) : Type 0 where
  pub few : HasFewRounds x
  pub refuted : IsSolvable q x → ⊥

-- one of the old candidates carries this one
abbrev pub is_carried : List Candidate → Candidate → Bool
is_carried old x = list_any (λ a. is_carrier a x) old

-- what is recorded of the candidates that no old one carries
abbrev pub not_carried : {K : Type 0} → List Candidate → List (Candidate × K) → List (Candidate × K)
not_carried old entries = filter (λ entry. not (is_carried old entry.0)) entries
