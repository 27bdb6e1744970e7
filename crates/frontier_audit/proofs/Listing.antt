-- The candidates of each step, as a search lists them, and those of them that are not refuted.
use Rattle.std.proofs.Common.{◌≡◌, ℕ, suc, ◌+◌, ◌-◌, ◌<◌, ◌≤◌, List, [], ◌++◌, map, append_assoc, refl, sym, ap, ◌∙◌, subst, arith, ◌↔◌, flat_map, All, AllPairs, Contains}
use Rattle.std.{proofs.lemmas.List.Elements.{All-contains, All-contains_itself, filter-append}, specs.List.range_with_len}
use Rattle.collective_spec.specs.{declared.kind.Kind.Kind, Collectives.kind_in}
use Rattle.candidate_order.{specs.{declared.candidate.Candidate.Candidate, Ranges.LimitsValue, Costs.Before, Listed.{IsListed, IsCount, candidate_at}, Frontiers.{QuestionValue}}, proofs.Unique.one_list_of_candidates}
use Rattle.candidate_formula.specs.Counts.{allowed_up_to, chunk_counts}
use Rattle.send_encoding.proofs.Everywhere.{in_map, in_flat, From, in_range}
use Rattle.frontier_audit.{specs.{Candidates.{candidates_within, in_search_order}, inner.Steps.{unrefuted_among, candidates_of_step}}, proofs.{InOrder.step_ascends, Tried.{all_ordered, counts_allowed, listed_contains, step_listed}}}

-- ---- the candidates of a step

abbrev pub step_of : QuestionValue → ℕ → List Candidate
step_of q s = in_search_order (candidates_of_step q s)

each_listed : (q : QuestionValue) (s : ℕ) → All (IsListed q.limits.k s (chunk_counts q)) (step_of q s)
each_listed q s = all_ordered (IsListed q.limits.k s (chunk_counts q)) (candidates_of_step q s)
    (in_flat (IsListed q.limits.k s (chunk_counts q)) (From s (q.limits.k + 1)) (λ r. map (λ c. candidate_at s (r, c)) (chunk_counts q)) (range_with_len s (q.limits.k + 1))
    (λ r rounds. in_map (IsListed q.limits.k s (chunk_counts q)) (Contains (chunk_counts q)) (λ c. candidate_at s (r, c)) (chunk_counts q)
    (λ c has. record { steps = refl; all_rounds = rounds.0; rounds = omega (arith, rounds.1); chunks = has }) (All-contains_itself (chunk_counts q))) (in_range s (q.limits.k + 1)))

pub listed_step : (q : QuestionValue) (s : ℕ) (xs : List Candidate) → 1 ≤ s → s ≤ q.limits.max_s → ((x : Candidate) → Contains xs x ↔ IsListed q.limits.k s (chunk_counts q) x) → AllPairs Before xs → xs ≡ step_of q s
listed_step q s xs some few members ascend = one_list_of_candidates xs (step_of q s) ascend (step_ascends q s) (λ x. (
  λ has. let l = (members x).0 has in subst (λ n. Contains (step_of q n) x) l.steps (listed_contains (step_of q x.s) x (step_listed q x (grind (arith, All-contains, counts_allowed)))),
  λ has. (members x).1 (All-contains (IsListed q.limits.k s (chunk_counts q)) (step_of q s) x (each_listed q s) has),
))

-- ---- with what the calls gave

module _ (q : QuestionValue) (limits : LimitsValue) (kind : Kind) (nodes : ℕ) (counts : List ℕ) (l : limits ≡ q.limits) (k : kind ≡ kind_in q.spec) (n : nodes ≡ q.topology.nodes) (made : counts ≡ allowed_up_to limits.max_c kind nodes) where
  counts_are : counts ≡ chunk_counts q
  counts_are = made ∙ (ap (λ (x : LimitsValue). allowed_up_to x.max_c kind nodes) l ∙ (ap (λ x. allowed_up_to q.limits.max_c x nodes) k ∙ ap (allowed_up_to q.limits.max_c (kind_in q.spec)) n))

  pub are_counts : All (IsCount limits.max_c) counts
  are_counts = subst (λ (x : LimitsValue). All (IsCount x.max_c) counts) (sym l) (subst (All (IsCount q.limits.max_c)) (sym counts_are) (λ i d low. let c = counts_allowed q i d low in let below = c.0.1 in (c.0.0, omega arith)))

  pub listed_is : (s : ℕ) (xs : List Candidate) → 1 ≤ s → s ≤ limits.max_s → ((x : Candidate) → Contains xs x ↔ IsListed limits.k s counts x) → AllPairs Before xs → xs ≡ step_of q s
  listed_is s xs some few members ascend =
      listed_step q s xs some (subst (λ (x : LimitsValue). s ≤ x.max_s) l few)
      (subst (λ (x : LimitsValue). (y : Candidate) → Contains xs y ↔ IsListed x.k s (chunk_counts q) y) l (subst (λ cs. (y : Candidate) → Contains xs y ↔ IsListed limits.k s cs y) counts_are members)) ascend

-- ---- step by step

-- the candidates from a step on
abbrev pub from_step : QuestionValue → ℕ → List Candidate
from_step q s = flat_map (step_of q) (range_with_len s (q.limits.max_s + 1 - s))

pub all_steps : (q : QuestionValue) → from_step q 1 ≡ candidates_within q
all_steps q = let count : q.limits.max_s + 1 - 1 ≡ q.limits.max_s = omega arith in ap (λ n. flat_map (step_of q) (range_with_len 1 n)) count

pub no_step : (q : QuestionValue) (s : ℕ) → q.limits.max_s + 1 ≤ s → from_step q s ≡ []
no_step q s past = let none : q.limits.max_s + 1 - s ≡ 0 = omega arith in ap (λ n. flat_map (step_of q) (range_with_len s n)) none

next_step : (q : QuestionValue) (s : ℕ) → s < q.limits.max_s + 1 → from_step q s ≡ step_of q s ++ from_step q (s + 1)
next_step q s low = let more : q.limits.max_s + 1 - s ≡ suc (q.limits.max_s + 1 - (s + 1)) = omega arith in ap (λ n. flat_map (step_of q) (range_with_len s n)) more

pub step_added : (q : QuestionValue) (refuted left now xs : List Candidate) (s : ℕ) → s < q.limits.max_s + 1 → xs ≡ step_of q s → now ≡ left ++ unrefuted_among refuted xs
    → now ++ unrefuted_among refuted (from_step q (s + 1)) ≡ left ++ unrefuted_among refuted (from_step q s)
step_added q refuted left now xs s low is made = grind (arith, append_assoc, filter-append, next_step)
