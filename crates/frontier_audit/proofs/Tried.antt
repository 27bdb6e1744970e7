-- The candidates of a search are just those within the limits.
use Rattle.std.proofs.Common.{◌≡◌, ℕ, zero, suc, ◌+◌, ◌<◌, ◌≤◌, Bool, true, List, [], ◌∷◌, map, Decides, refl, ap, ◌∙◌, arith, ◌||◌, ◌↔◌, filter, nat_le, All, Contains}
use Rattle.std.proofs.lemmas.{Bool.{and_parts, cases_eq, or_left, or_right, leb-true, Decides.{Decides-and, Decides-eqb, Decides-like}}, List.Elements.{All-nil, All-cons, All-head, All-tail, All-contains}}
use Rattle.std.{proofs.lemmas.List.Folds.{list_any_at, Any-from_list_any}, specs.List.{list_any, range_with_len}}
use Rattle.collective_spec.specs.{Kinds.allows, Collectives.kind_in}
use Rattle.candidate_order.specs.{declared.candidate.Candidate.Candidate, Listed.candidate_at, Frontiers.{QuestionValue, IsWithin}}
use Rattle.send_encoding.proofs.{Everywhere.{in_map, in_flat, From, in_range}, Decoded.any_range, Members.kept}
use Rattle.candidate_formula.specs.Counts.{chunk_counts}
use Rattle.frontier_audit.specs.{Candidates.{same_candidate, is_listed, put_in_order, in_search_order, candidates_within}, inner.Steps.candidates_of_step}

-- ---- the test of the same candidate

pub same_decides : (a b : Candidate) → Decides (same_candidate a b) (a ≡ b)
same_decides a b = grind (arith, Decides-like, Decides-and, Decides-eqb)

pub same_is : (a b : Candidate) → same_candidate a b ≡ true → a ≡ b
same_is a b = (same_decides a b).0

pub same_itself : (a : Candidate) → same_candidate a a ≡ true
same_itself a = (same_decides a a).1 refl

-- a test for the same candidate as each in the list
pub listed_by : (test : Candidate → Bool) (x : Candidate) (xs : List Candidate) → ((y : Candidate) → test y ≡ same_candidate y x) → list_any test xs ≡ is_listed xs x
listed_by test x xs is = grind arith

pub listed_contains : (xs : List Candidate) (x : Candidate) → is_listed xs x ≡ true → Contains xs x
listed_contains xs x e = grind (arith, Any-from_list_any, same_is)

pub contains_listed : (xs : List Candidate) (x : Candidate) → Contains xs x → is_listed xs x ≡ true
contains_listed xs x (k, low, at) = list_any_at (same_candidate x) xs k x low (ap (same_candidate x) at ∙ same_itself x)

-- ---- a search's order leaves the same candidates

any_put : (p : Candidate → Bool) (x : Candidate) (ys : List Candidate) → list_any p (put_in_order x ys) ≡ (p x || list_any p ys)
any_put p x [] = refl
any_put p x (y ∷ ys) = grind (arith, any_put p x ys)

any_ordered : (p : Candidate → Bool) (xs : List Candidate) → list_any p (in_search_order xs) ≡ list_any p xs
any_ordered p [] = refl
any_ordered p (x ∷ xs) = any_put p x (in_search_order xs) ∙ ap (λ rest. p x || rest) (any_ordered p xs)

pub all_put : (P : Candidate → Type 0) (x : Candidate) (ys : List Candidate) → P x → All P ys → All P (put_in_order x ys)
all_put P x [] h a = All-cons P x [] h (All-nil P)
all_put P x (y ∷ ys) h a = grind (arith, All-tail, All-cons, All-head, all_put P x ys h (All-tail P y ys a))

pub all_ordered : (P : Candidate → Type 0) (xs : List Candidate) → All P xs → All P (in_search_order xs)
all_ordered P [] a = All-nil P
all_ordered P (x ∷ xs) a = all_put P x (in_search_order xs) (All-head P x xs a) (all_ordered P xs (All-tail P x xs a))

-- ---- each of them is within the limits

abbrev pub IsCountOf : QuestionValue → ℕ → Type 0
IsCountOf q c = From 1 q.limits.max_c c × (allows (kind_in q.spec) q.topology.nodes c ≡ true)

pub counts_allowed : (q : QuestionValue) → All (IsCountOf q) (chunk_counts q)
counts_allowed q = kept (allows (kind_in q.spec) q.topology.nodes) (From 1 q.limits.max_c) (range_with_len 1 q.limits.max_c) (in_range 1 q.limits.max_c)

pub step_within : (q : QuestionValue) (s : ℕ) → From 1 q.limits.max_s s → All (IsWithin q) (candidates_of_step q s)
step_within q s step = in_flat (IsWithin q) (From s (q.limits.k + 1)) (λ r. map (λ c. candidate_at s (r, c)) (chunk_counts q)) (range_with_len s (q.limits.k + 1))
    (λ r rounds. in_map (IsWithin q) (IsCountOf q) (λ c. candidate_at s (r, c)) (chunk_counts q)
    (λ c count. record { some_steps = step.0; steps = omega (arith, step.1); all_rounds = rounds.0; rounds = omega (arith, rounds.1); chunks = omega (arith, count.0.1); allowed = count.1 }) (counts_allowed q)) (in_range s (q.limits.k + 1))

pub each_within : (q : QuestionValue) → All (IsWithin q) (candidates_within q)
each_within q = in_flat (IsWithin q) (From 1 q.limits.max_s) (λ s. in_search_order (candidates_of_step q s)) (range_with_len 1 q.limits.max_s)
    (λ s step. all_ordered (IsWithin q) (candidates_of_step q s) (step_within q s step)) (in_range 1 q.limits.max_s)

-- ---- and each within the limits is one of them

any_passing : {X : Type 0} (p : X → Bool) (g : ℕ → X) (keep : ℕ → Bool) (a n j : ℕ) → a ≤ j → j < a + n → keep j ≡ true → p (g j) ≡ true → list_any p (map g (filter keep (range_with_len a n))) ≡ true
any_passing p g keep a zero j low high k h = absurd (omega (arith, low, high))
any_passing p g keep a (suc n) j low high k h = grind (arith, cases_eq, or_left, or_right, any_passing p g keep (a + 1) n j)

pub step_listed : (q : QuestionValue) (x : Candidate) → IsWithin q x → is_listed (in_search_order (candidates_of_step q x.s)) x ≡ true
step_listed q x w =
    let p : Candidate → Bool = same_candidate x in
    any_ordered p (candidates_of_step q x.s)
    ∙ any_range p (λ r. map (λ c. candidate_at x.s (r, c)) (chunk_counts q)) x.s (q.limits.k + 1) x.r w.all_rounds (omega (arith, w.rounds))
    (any_passing p (λ c. candidate_at x.s (x.r, c)) (allows (kind_in q.spec) q.topology.nodes) 1 q.limits.max_c x.c (some_chunks w.allowed) (omega (arith, w.chunks)) w.allowed (same_itself x))
  where
    some_chunks : allows (kind_in q.spec) q.topology.nodes x.c ≡ true → 1 ≤ x.c
    some_chunks e = let parts = and_parts (nat_le 1 x.c) _ e in leb-true 1 x.c parts.0

pub within_listed : (q : QuestionValue) (x : Candidate) → IsWithin q x → is_listed (candidates_within q) x ≡ true
within_listed q x w = any_range (same_candidate x) (λ s. in_search_order (candidates_of_step q s)) 1 q.limits.max_s x.s w.some_steps (omega (arith, w.steps)) (step_listed q x w)

pub candidates_exactly : (q : QuestionValue) (x : Candidate) → Contains (candidates_within q) x ↔ IsWithin q x
candidates_exactly q x = (λ at. All-contains (IsWithin q) (candidates_within q) x (each_within q) at, λ w. listed_contains (candidates_within q) x (within_listed q x w))
