-- The order of the search is one that a sort can use, and sorted candidates of a step ascend by it.
use Rattle.std.proofs.{Common.{◌≡◌, ℕ, ◌+◌, ◌*◌, ◌<◌, ◌≤◌, ◌⊎◌, Bool, true, false, List, map, refl, sym, ap, ◌∙◌, subst, arith, All, AllPairs, Contains, IsPermutation}, lemmas.Bool.{false≢true, and_from, eq-eqb, Decides.nat_tests}}
use Rattle.std.proofs.lemmas.List.{Elements.{All-weaker, All-map, All-contains, All-contains_itself, All-from_get_or}, FromFn.{length-range_with_len, get_or-range_with_len}, Sorted.{sorted_far, All-permutation, Contains-permutation}}
use Rattle.std.{proofs.lemmas.Map.Keys.{apart_from_distinct, IsDistinct-IsPermutation}, specs.{Cmp.IsStrictWeakOrder, Ordering.{nat_cmp, ordering_then, is_lt}, List.{IsDistinct, range_with_len, Sorted.{IsSortedBy, IsStrictlyIncreasing}}}}
use Rattle.list_laws.proofs.Members.{Contains-map}
use Rattle.itertools.{specs.Product.rows, proofs.ListFactLemmas.All-rows}
use Rattle.candidate_order.specs.{declared.candidate.Candidate.Candidate, Costs.{Before, search_cmp}, Listed.{IsListed, IsCount, candidate_at}}
use Rattle.candidate_order.proofs.{Costing.{UpTo, upto_trans, same_rounds}, Rows.{same_pair, IsDistinct-map, IsDistinct-rows, IsDistinct-range, IsDistinct-increasing, Contains-rows, Contains-range}}

-- the first comes before the second
abbrev pub comes : Candidate → Candidate → Bool
comes a b = is_lt (search_cmp a b)

abbrev UpToAt : ℕ → ℕ → ℕ → ℕ → ℕ → ℕ → Type 0
UpToAt p q c d r s = (p < q) ⊎ ((p ≡ q) × ((c < d) ⊎ ((c ≡ d) × (r ≤ s))))

abbrev comes_at : ℕ → ℕ → ℕ → ℕ → ℕ → ℕ → Bool
comes_at p q c d r s = is_lt (ordering_then (ordering_then (nat_cmp p q) (nat_cmp c d)) (nat_cmp r s))

told_at : (p q c d r s : ℕ) → comes_at q p d c s r ≡ false → UpToAt p q c d r s
told_at p q c d r s h = grind (arith, nat_tests)

from_at : (p q c d r s : ℕ) → UpToAt p q c d r s → comes_at q p d c s r ≡ false
from_at p q c d r s h = grind (arith, nat_tests)

one_way_at : (p q c d r s : ℕ) → comes_at p q c d r s ≡ true → comes_at q p d c s r ≡ false
one_way_at p q c d r s h = grind (arith, nat_tests)

pub upto_from_comes : (a b : Candidate) → comes b a ≡ false → UpTo a.r a.c b.r b.c
upto_from_comes a b h = told_at (a.r * b.c) (b.r * a.c) a.c b.c a.r b.r h

pub comes_is_order : IsStrictWeakOrder comes
comes_is_order = record {
  one_way = λ a b h. one_way_at (a.r * b.c) (b.r * a.c) a.c b.c a.r b.r h;
  chain = λ x y z a b. from_at (z.r * x.c) (x.r * z.c) z.c x.c z.r x.r (upto_trans z.r z.c y.r y.c x.r x.c (upto_from_comes z y b) (upto_from_comes y x a));
}

-- what a sort takes for one candidate of a step
abbrev pub same_at : Candidate → Candidate → Bool
same_at a b = same_pair (a.r, a.c) (b.r, b.c)

-- of two candidates of a step that differ, one comes before the other
pub Before-from_comes : (a b : Candidate) → a.s ≡ b.s → 1 ≤ a.c → comes b a ≡ false → same_at a b ≡ false → Before a b
Before-from_comes a b step some later differ = grind (arith, upto_from_comes, false≢true, and_from, eq-eqb, same_rounds)

-- the candidates of a step, as they are made
abbrev pub made : ℕ → ℕ → List ℕ → List Candidate
made step k counts = map (candidate_at step) (rows (range_with_len step (k + 1)) counts)

abbrev IsBetween : ℕ → ℕ → ℕ → Type 0
IsBetween low high r = (low ≤ r) × (r ≤ high)

All-made : (step k : ℕ) (counts : List ℕ) → All (IsListed k step counts) (made step k counts)
All-made step k counts =
    let range = range_with_len step (k + 1) in
    let within : All (IsBetween step (step + k)) range = All-from_get_or (IsBetween step (step + k)) range 0 (λ i below. let at = get_or-range_with_len step (k + 1) i 0 (omega (arith, length-range_with_len step (k + 1))) in (omega (arith, at), omega (arith, at, length-range_with_len step (k + 1)))) in
    All-map (IsListed k step counts) (candidate_at step) (rows range counts) (All-weaker (λ p. IsBetween step (step + k) p.0 × Contains counts p.1) (λ p. IsListed k step counts (candidate_at step p)) (λ p h. record { steps = refl; all_rounds = h.0.0; rounds = h.0.1; chunks = h.1 }) (rows range counts) (All-rows (IsBetween step (step + k)) (Contains counts) range counts within (All-contains_itself counts)))

Contains-made : (step k : ℕ) (counts : List ℕ) (x : Candidate) → IsListed k step counts x → Contains (made step k counts) x
Contains-made step k counts x listed =
    let same : candidate_at step (x.r, x.c) ≡ x = ap (λ s. candidate_at s (x.r, x.c)) (sym listed.steps) in
    subst (Contains (made step k counts)) same (Contains-map (candidate_at step) _ (x.r, x.c) (Contains-rows _ counts x.r x.c (Contains-range step (k + 1) x.r listed.all_rounds (omega (arith, listed.rounds))) listed.chunks))

IsDistinct-made : (step k : ℕ) (counts : List ℕ) → IsStrictlyIncreasing counts → IsDistinct same_at (made step k counts)
IsDistinct-made step k counts up =
    IsDistinct-map same_pair same_at (candidate_at step) (λ p q differ. differ) _ (IsDistinct-rows _ counts (IsDistinct-range step (k + 1)) (IsDistinct-increasing counts up))

-- a list of the candidates of a step, in any order, has just these
pub members-made : (step k : ℕ) (counts : List ℕ) (ys : List Candidate) → IsPermutation (made step k counts) ys → (x : Candidate) → (Contains ys x → IsListed k step counts x) × (IsListed k step counts x → Contains ys x)
members-made step k counts ys shuffled x =
    (All-contains (IsListed k step counts) ys x (All-permutation (IsListed k step counts) _ ys shuffled (All-made step k counts)), λ listed. Contains-permutation _ ys x shuffled (Contains-made step k counts x listed))

flips : (a b : Candidate) → same_at a b ≡ same_at b a
flips a b = grind (arith, nat_tests)

-- and where it is sorted, it ascends
pub Before-made : (step k greatest : ℕ) (counts : List ℕ) (ys : List Candidate) → IsStrictlyIncreasing counts → All (IsCount greatest) counts → IsPermutation (made step k counts) ys → IsSortedBy comes ys → AllPairs Before ys
Before-made step k greatest counts ys up limited shuffled sorted i j d before within =
    let listed = All-permutation (IsListed k step counts) _ ys shuffled (All-made step k counts) in
    let first = listed i d (omega arith) in
    let second = listed j d within in
    Before-from_comes _ _ (first.steps ∙ sym second.steps) (All-contains (IsCount greatest) counts _ limited first.chunks).0 (sorted_far comes comes_is_order ys sorted i j d (omega arith) within) (apart_from_distinct same_at ys i j d (IsDistinct-IsPermutation same_at flips _ ys shuffled (IsDistinct-made step k counts up)) before within)
