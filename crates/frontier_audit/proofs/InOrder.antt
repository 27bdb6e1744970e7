-- The candidates of a search come in its order.
use Rattle.std.proofs.{Common.{◌≡◌, ℕ, zero, suc, ◌+◌, ◌<◌, ◌≤◌, Bool, true, false, List, [], ◌∷◌, map, get_or, inl, refl, sym, ap, arith, ◌≢◌, if◌then◌else◌, flat_map, All, AllPairs}, lemmas.Bool.false≢true}
use Rattle.std.{proofs.lemmas.List.{Elements.{All-nil, All-cons, All-head, All-tail, All-filter}, Kept.{AllPairs-cons, AllPairs-filter}}, specs.List.range_with_len}
use Rattle.list_laws.proofs.Pairs.{no_pairs, pairs_tail, pairs_head}
use Rattle.collective_spec.specs.{Kinds.allows, Collectives.kind_in}
use Rattle.candidate_order.{specs.{declared.candidate.Candidate.Candidate, Costs.Before, Listed.candidate_at, Frontiers.QuestionValue}, proofs.Orders.{Before-trans, Before-total, HasChunk}}
use Rattle.report_form.{specs.Tests.is_before, proofs.Tested.decides_before}
use Rattle.send_encoding.proofs.{Everywhere.{in_map, in_flat, From, in_range}, Orders.pairs_append}
use Rattle.candidate_formula.specs.Counts.{chunk_counts}
use Rattle.frontier_audit.{specs.{Candidates.{put_in_order, in_search_order, candidates_within}, inner.Steps.candidates_of_step}, proofs.Tried.{all_put, all_ordered}}

-- ---- pairs of a list

-- lists of a range, each in order, and each before the later ones
pairs_of_range : {X : Type 0} (R : X → X → Type 0) (K : ℕ → X → Type 0) (f : ℕ → List X) → ((j : ℕ) → All (K j) (f j)) → ((j : ℕ) → AllPairs R (f j)) → ((i j : ℕ) (x y : X) → i < j → K i x → K j y → R x y) → (a n : ℕ) → AllPairs R (flat_map f (range_with_len a n))
pairs_of_range R K f kinds inner apart a zero = no_pairs R
pairs_of_range {X} R K f kinds inner apart a (suc n) =
    pairs_append R (f a) (flat_map f (range_with_len (a + 1) n)) (inner a) (pairs_of_range R K f kinds inner apart (a + 1) n)
    (all_by (f a) (kinds a))
  where
    all_by : (xs : List X) → All (K a) xs → All (λ x. All (R x) (flat_map f (range_with_len (a + 1) n))) xs
    all_by [] h = All-nil (λ x. All (R x) (flat_map f (range_with_len (a + 1) n)))
    all_by (x ∷ xs) h = All-cons (λ z. All (R z) (flat_map f (range_with_len (a + 1) n))) x xs
        (in_flat (R x) (From (a + 1) n) f (range_with_len (a + 1) n)
        (λ j at k d low. apart a j x (get_or (f j) k d) (omega (arith, at.0)) (All-head (K a) x xs h) (kinds j k d low)) (in_range (a + 1) n))
        (all_by xs (All-tail (K a) x xs h))

-- ---- a list in the order of the search

not_before : (x y : Candidate) → HasChunk x → HasChunk y → x ≢ y → is_before x y ≡ false → Before y x
not_before x y a b apart e = grind (arith, Before-total, false≢true, decides_before)

before_all : (x y : Candidate) (ys : List Candidate) → HasChunk x → HasChunk y → All HasChunk ys → Before x y → All (Before y) ys → All (Before x) ys
before_all x y ys a b some h later k d low = Before-trans x y (get_or ys k d) a b (some k d low) h (later k d low)

put_ascends : (x : Candidate) (ys : List Candidate) → HasChunk x → All HasChunk ys → All (λ y. x ≢ y) ys → AllPairs Before ys → AllPairs Before (put_in_order x ys)
put_ascends x [] a some apart p = AllPairs-cons Before x [] (All-nil (Before x)) p
put_ascends x (y ∷ ys) a some apart p =
    chosen (is_before x y) refl (put_ascends x ys a (All-tail HasChunk y ys some) (All-tail (λ z. x ≢ z) y ys apart) (pairs_tail Before y ys p))
  where
    chosen : (b : Bool) → b ≡ is_before x y → AllPairs Before (put_in_order x ys) → AllPairs Before (if b then x ∷ y ∷ ys else y ∷ put_in_order x ys)
    chosen true e later =
        let h = (decides_before x y).0 (sym e) in
        AllPairs-cons Before x (y ∷ ys) (All-cons (Before x) y ys h (before_all x y ys a (All-head HasChunk y ys some) (All-tail HasChunk y ys some) h (pairs_head Before y ys p))) p
    chosen false e later =
        AllPairs-cons Before y (put_in_order x ys)
        (all_put (Before y) x ys (not_before x y a (All-head HasChunk y ys some) (All-head (λ z. x ≢ z) y ys apart) (sym e)) (pairs_head Before y ys p)) later

ordered_ascends : (xs : List Candidate) → All HasChunk xs → AllPairs (λ x y. x ≢ y) xs → AllPairs Before (in_search_order xs)
ordered_ascends [] some apart = no_pairs Before
ordered_ascends (x ∷ xs) some apart =
    put_ascends x (in_search_order xs) (All-head HasChunk x xs some) (all_ordered HasChunk xs (All-tail HasChunk x xs some))
    (all_ordered (λ y. x ≢ y) xs (pairs_head (λ y z. y ≢ z) x xs apart))
    (ordered_ascends xs (All-tail HasChunk x xs some) (pairs_tail (λ y z. y ≢ z) x xs apart))

-- ---- the candidates of a step are all different

abbrev Less : ℕ → ℕ → Type 0
Less m n = m < n

range_ascends : (a n : ℕ) → AllPairs Less (range_with_len a n)
range_ascends a zero = no_pairs Less
range_ascends a (suc n) = grind (arith, AllPairs-cons, in_range, range_ascends (a + 1) n)

counted_apart : (s r : ℕ) (cs : List ℕ) → AllPairs Less cs → AllPairs (λ x y. x ≢ y) (map (λ c. candidate_at s (r, c)) cs)
counted_apart s r [] h = no_pairs (λ x y. x ≢ y)
counted_apart s r (c ∷ cs) h = AllPairs-cons (λ x y. x ≢ y) (candidate_at s (r, c)) (map (λ n. candidate_at s (r, n)) cs)
    (in_map (λ y. candidate_at s (r, c) ≢ y) (Less c) (λ n. candidate_at s (r, n)) cs (λ n less e. let same : c ≡ n = ap (λ x. x.c) e in absurd (omega (arith, less, same))) (pairs_head Less c cs h))
    (counted_apart s r cs (pairs_tail Less c cs h))

abbrev OfRounds : ℕ → Candidate → Type 0
OfRounds r x = x.r ≡ r

of_rounds : (s r : ℕ) (cs : List ℕ) → All (OfRounds r) (map (λ c. candidate_at s (r, c)) cs)
of_rounds s r [] = All-nil (OfRounds r)
of_rounds s r (c ∷ cs) = All-cons (OfRounds r) (candidate_at s (r, c)) (map (λ n. candidate_at s (r, n)) cs) refl (of_rounds s r cs)

step_apart : (q : QuestionValue) (s : ℕ) → AllPairs (λ x y. x ≢ y) (candidates_of_step q s)
step_apart q s = pairs_of_range (λ x y. x ≢ y) OfRounds (λ r. map (λ c. candidate_at s (r, c)) (chunk_counts q)) (λ r. of_rounds s r (chunk_counts q))
    (λ r. counted_apart s r (chunk_counts q) (AllPairs-filter Less (allows (kind_in q.spec) q.topology.nodes) (range_with_len 1 q.limits.max_c) (range_ascends 1 q.limits.max_c)))
    (λ i j x y less a b e. let same : x.r ≡ y.r = ap (λ z. z.r) e in omega (arith, less, a, b, same)) s (q.limits.k + 1)

-- ---- and all of them ascend

abbrev OfSteps : ℕ → Candidate → Type 0
OfSteps s x = x.s ≡ s

with_chunks : (q : QuestionValue) (s : ℕ) → All HasChunk (candidates_of_step q s)
with_chunks q s = in_flat HasChunk (λ r. Unit {0}) (λ r. map (λ c. candidate_at s (r, c)) (chunk_counts q)) (range_with_len s (q.limits.k + 1))
    (λ r u. in_map HasChunk (λ c. 1 ≤ c) (λ c. candidate_at s (r, c)) (chunk_counts q) (λ c h. h) (All-filter (allows (kind_in q.spec) q.topology.nodes) (λ c. 1 ≤ c) (range_with_len 1 q.limits.max_c) (λ k d low. let at = in_range 1 q.limits.max_c k d low in at.0))) (λ k d low. tt)

of_steps : (q : QuestionValue) (s : ℕ) → All (OfSteps s) (candidates_of_step q s)
of_steps q s = in_flat (OfSteps s) (λ r. Unit {0}) (λ r. map (λ c. candidate_at s (r, c)) (chunk_counts q)) (range_with_len s (q.limits.k + 1))
    (λ r u. in_map (OfSteps s) (λ c. Unit {0}) (λ c. candidate_at s (r, c)) (chunk_counts q) (λ c v. refl) (λ k d low. tt)) (λ k d low. tt)

pub step_ascends : (q : QuestionValue) (s : ℕ) → AllPairs Before (in_search_order (candidates_of_step q s))
step_ascends q s = ordered_ascends (candidates_of_step q s) (with_chunks q s) (step_apart q s)

pub within_ascends : (q : QuestionValue) → AllPairs Before (candidates_within q)
within_ascends q = pairs_of_range Before OfSteps (λ s. in_search_order (candidates_of_step q s)) (λ s. all_ordered (OfSteps s) (candidates_of_step q s) (of_steps q s))
    (step_ascends q)
    (λ i j x y less a b. inl (omega (arith, less, a, b))) 1 q.limits.max_s
