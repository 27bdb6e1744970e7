-- A record that ascends: each candidate stands there once, and in the list of its kind.
use Rattle.std.proofs.{Common.{◌≡◌, inl, inr, Bool, true, false, cond, List, [], ◌∷◌, ◌++◌, length, map, subst, ap, sym, ◌∙◌, refl, arith, AllPairs, Contains, filter}, lemmas.Bool.cases_order}
use Rattle.std.proofs.lemmas.List.{append-nil, get_or-map, get_or_default, length-map, map-append, Elements.filter-append, Kept.AllPairs-filter}
use Rattle.std.{proofs.lemmas.List.Sorted.{IsPermutation-refl, IsPermutation-sym, IsPermutation-cons, IsPermutation-trans, IsPermutation-append_left, IsPermutation-middle}, specs.List.Sorted.IsPermutation}
use Rattle.list_laws.proofs.Members.{Contains-filter, Contains-map}
use Rattle.schedule.proofs.First.{Among-from_Contains, Contains-from_Among, filter_among, map_among}
use Rattle.candidate_order.{specs.{declared.candidate.Candidate.Candidate, Costs.Before}, proofs.Orders.Before-irrefl}
use Rattle.engine_rules.specs.{declared.settled.Settled.{Settled, TheVariants.{Solved, Refuted, Unknown}}, Outcomes.RecordValue}
use Rattle.pareto_search.specs.inner.Passing.{is_same, of_kind}

AllPairs-map : {X Y : Type 0} (R : Y → Y → Type 0) (f : X → Y) (xs : List X) → AllPairs (λ a b. R (f a) (f b)) xs → AllPairs R (map f xs)
AllPairs-map R f [] pairs i j d before below = absurd (omega arith)
AllPairs-map R f (x ∷ xs) pairs i j d before below =
    let size : length (map f (x ∷ xs)) ≡ length (x ∷ xs) = length-map (x ∷ xs) f in
    rw (get_or-map f (x ∷ xs) i x d (omega arith), get_or-map f (x ∷ xs) j x d (omega arith)) (pairs i j x before (omega arith))

kind_from_same : (a b : Settled) → is_same a b ≡ true → a ≡ b
kind_from_same Solved Solved h = refl
kind_from_same Refuted Refuted h = refl
kind_from_same Unknown Unknown h = refl
kind_from_same Solved Refuted h = absurd cc
kind_from_same Solved Unknown h = absurd cc
kind_from_same Refuted Solved h = absurd cc
kind_from_same Refuted Unknown h = absurd cc
kind_from_same Unknown Solved h = absurd cc
kind_from_same Unknown Refuted h = absurd cc

same_kind : (a : Settled) → is_same a a ≡ true
same_kind Solved = refl
same_kind Refuted = refl
same_kind Unknown = refl

-- a candidate of a kind is in the record with that kind
pub of_kind-settled : (kind : Settled) (entries : RecordValue) (x : Candidate) → Contains (of_kind kind entries) x → Contains entries (x, kind)
of_kind-settled kind entries x at =
    let (e, among, is) = map_among (λ (e : Candidate × Settled). e.0) x (filter (λ e. is_same kind e.1) entries) (Among-from_Contains x (of_kind kind entries) at) in
    let (there, passes) = filter_among (λ (e : Candidate × Settled). is_same kind e.1) e entries among in
    let same : e ≡ (x, kind) = λ i. (is i, sym (kind_from_same kind e.1 passes) i) in
    subst (Contains entries) same (Contains-from_Among e entries there)

pub Contains-of_kind : (kind : Settled) (entries : RecordValue) (x : Candidate) → Contains entries (x, kind) → Contains (of_kind kind entries) x
Contains-of_kind kind entries x h =
    Contains-map (λ e. e.0) _ (x, kind) (Contains-filter (λ e. is_same kind e.1) entries (x, kind) (same_kind kind) h)

-- the candidates of a kind where the record has one entry more
pub lists_more : (k kind : Settled) (entries : RecordValue) (x : Candidate) (xs : List Candidate) → xs ≡ of_kind k entries → cond (is_same k kind) (xs ++ x ∷ []) xs ≡ of_kind k (entries ++ (x, kind) ∷ [])
lists_more k kind entries x xs same =
    let test : Candidate × Settled → Bool = λ e. is_same k e.1 in
    let fst : Candidate × Settled → Candidate = λ e. e.0 in
    at (is_same k kind) ∙ sym (ap (map fst) (filter-append test entries ((x, kind) ∷ [])) ∙ map-append fst (filter test entries) (filter test ((x, kind) ∷ [])))
  where
    at : (b : Bool) → cond b (xs ++ x ∷ []) xs ≡ of_kind k entries ++ map (λ (e : Candidate × Settled). e.0) (cond b ((x, kind) ∷ []) [])
    at true = ap (λ ys. ys ++ x ∷ []) same
    at false = same ∙ sym (append-nil (of_kind k entries))

abbrev Ascends : RecordValue → Type 0
Ascends entries = AllPairs (λ a b. Before a.0 b.0) entries

pub of_kind-ascends : (kind : Settled) (entries : RecordValue) → Ascends entries → AllPairs Before (of_kind kind entries)
of_kind-ascends kind entries up =
    AllPairs-map Before (λ e. e.0) _ (AllPairs-filter (λ a b. Before a.0 b.0) (λ e. is_same kind e.1) entries up)

-- a candidate stands there with one kind
pub one_kind : (entries : RecordValue) (x : Candidate) (k l : Settled) → Ascends entries → Contains entries (x, k) → Contains entries (x, l) → k ≡ l
one_kind entries x k l up (i, below_i, at_i) (j, below_j, at_j) =
    let there = get_or_default entries j (x, k) (x, l) below_j ∙ at_j in
    elim (cases_order i j) [
      | inl same ↦ ap (λ (e : Candidate × Settled). e.1) (sym at_i ∙ rw (← same) at there)
      | inr (inl before) ↦ absurd (Before-irrefl x (rw (at_i, there) at (up i j (x, k) before below_j)))
      | inr (inr after) ↦ absurd (Before-irrefl x (rw (at_i, there) at (up j i (x, k) after below_i)))
    ]

-- the candidates of each kind, with their kinds, are the record
abbrev with_kind : Settled → RecordValue → RecordValue
with_kind kind entries = map (λ x. (x, kind)) (of_kind kind entries)

abbrev pub by_kind : RecordValue → RecordValue
by_kind entries = with_kind Solved entries ++ with_kind Refuted entries ++ with_kind Unknown entries

pub by_kind-shuffles : (entries : RecordValue) → IsPermutation entries (by_kind entries)
by_kind-shuffles [] = IsPermutation-refl []
by_kind-shuffles ((x, Solved) ∷ es) = IsPermutation-cons (x, Solved) es (by_kind es) (by_kind-shuffles es)
by_kind-shuffles ((x, Refuted) ∷ es) = IsPermutation-trans _ _ _ (IsPermutation-cons (x, Refuted) es (by_kind es) (by_kind-shuffles es))
    (IsPermutation-sym _ _ (IsPermutation-append_left (with_kind Unknown es) _ _ (IsPermutation-middle (with_kind Solved es) (x, Refuted) (with_kind Refuted es))))
by_kind-shuffles ((x, Unknown) ∷ es) = IsPermutation-trans _ _ _ (IsPermutation-cons (x, Unknown) es (by_kind es) (by_kind-shuffles es))
    (IsPermutation-sym _ _ (IsPermutation-middle (with_kind Solved es ++ with_kind Refuted es) (x, Unknown) (with_kind Unknown es)))
