-- Classes of chunks that are alike: each has a least chunk, and its chunks ascend.
use Rattle.std.proofs.Common.{◌≡◌, ℕ, zero, suc, ◌+◌, ◌-◌, ◌<◌, ◌≤◌, Bool, true, false, ltb, List, [], ◌∷◌, get_or, refl, ◌∙◌, ⊎_elim, arith, filter}
use Rattle.std.proofs.lemmas.{Bool.{cases_Bool, cases_eq, false_from_ne_true, not_from_false, ltb-true, lt-ltb}, List.FromFn.{length-range_with_len, get_or-range_with_len}}
use Rattle.std.specs.List.{list_any, range_with_len, AllByRecursion}
use Rattle.schedule.{specs.Placed.PlacementValue, proofs.First.{among_each, among_kept, Among-from_Contains, InOrder, InOrder-filter, each_weaker, each_filter, each_passes}}
use Rattle.chunk_order.{specs.{Alike.is_alike, Ordering.{is_least, class_of, next_pairs}}, proofs.{Alikeness.{alike_itself, alike_back, alike_both}, Firsts.{first_from, first_no_later, first_passes}}}

-- ---- a range and what passes a test in it

pub range_low : (a b n : ℕ) → b ≤ a → AllByRecursion (λ k. b ≤ k) (range_with_len a n)
range_low a b zero low = tt
range_low a b (suc n) low = (low, range_low (a + 1) b n (omega (arith, low)))

pub range_high : (a n top : ℕ) → a + n ≤ top → AllByRecursion (λ k. k < top) (range_with_len a n)
range_high a zero top high = tt
range_high a (suc n) top high = (omega (arith, high), range_high (a + 1) n top (omega (arith, high)))

pub range_order : (a n : ℕ) → InOrder ltb (range_with_len a n)
range_order a zero = tt
range_order a (suc n) =
    (each_weaker (λ k. a + 1 ≤ k) (λ k. ltb a k ≡ true) (λ k low. lt-ltb a k (omega (arith, low))) (range_with_len (a + 1) n) (range_low (a + 1) (a + 1) n (omega arith)), range_order (a + 1) n)

pub none_in_range : (p : ℕ → Bool) (a n : ℕ) → ((k : ℕ) → a ≤ k → k < a + n → p k ≡ false) → list_any p (range_with_len a n) ≡ false
none_in_range p a zero none = refl
none_in_range p a (suc n) none = grind (arith, none, none_in_range p (a + 1) n)

pub filter_at : (p : ℕ → Bool) (P : ℕ → Type 0) (a n k : ℕ) → AllByRecursion P (filter p (range_with_len a n)) → a ≤ k → k < a + n → p k ≡ true → P k
filter_at p P a n k each low high it =
    let range = range_with_len a n in
    let few : k - a < n = omega (arith, low, high) in
    let is : get_or range (k - a) k ≡ k = get_or-range_with_len a n (k - a) k few ∙ omega (arith, low) in
    among_each P k (filter p range) each (among_kept p k range (Among-from_Contains k range (k - a, omega (arith, few, length-range_with_len a n), is)) it)

-- ---- the least of a class

pub record Leads (pre post : PlacementValue) (c : ℕ) : Type 0 where
  pub leader : ℕ
  pub low : leader ≤ c
  pub alike : is_alike pre post leader c ≡ true
  pub least : is_least pre post leader ≡ true

pub leads : (pre post : PlacementValue) (c : ℕ) → Leads pre post c
leads pre post c =
    let p : ℕ → Bool = is_alike pre post c in
    let l : ℕ = first_from p 0 (c + 1) in
    let low : l ≤ c = first_no_later p 0 (c + 1) c (omega arith) (omega arith) (alike_itself pre post c) in
    let passes : is_alike pre post c l ≡ true = first_passes p 0 (c + 1) (omega (arith, low)) in
    record {
      leader = l;
      low = low;
      alike = alike_back pre post c l passes;
      least = not_from_false (list_any (is_alike pre post l) (range_with_len 0 l)) (none_in_range (is_alike pre post l) 0 l (λ k from to.
          false_from_ne_true (is_alike pre post l k) (λ also.
          let earlier : l ≤ k = first_no_later p 0 (c + 1) k (omega arith) (omega (arith, to, low)) (alike_both pre post c l k passes also) in
          omega (arith, earlier, to))));
    }

-- ---- next pairs of a class

pub record IsNext (pre post : PlacementValue) (leader : ℕ) (pair : ℕ × ℕ) : Type 0 where
  pub less : pair.0 < pair.1
  pub low : pair.1 < pre.chunks
  pub first : is_alike pre post leader pair.0 ≡ true
  pub second : is_alike pre post leader pair.1 ≡ true

pub nexts_of_class : (pre post : PlacementValue) (leader : ℕ) → AllByRecursion (IsNext pre post leader) (next_pairs (class_of pre post leader))
nexts_of_class pre post leader =
    of_list (class_of pre post leader)
    (each_filter (λ k. k < pre.chunks) (is_alike pre post leader) (range_with_len 0 pre.chunks) (range_high 0 pre.chunks pre.chunks (omega arith)))
    (each_passes (is_alike pre post leader) (range_with_len 0 pre.chunks))
    (InOrder-filter ltb (is_alike pre post leader) (range_with_len 0 pre.chunks) (range_order 0 pre.chunks))
  where
    of_list : (cs : List ℕ) → AllByRecursion (λ k. k < pre.chunks) cs → AllByRecursion (λ k. is_alike pre post leader k ≡ true) cs → InOrder ltb cs → AllByRecursion (IsNext pre post leader) (next_pairs cs)
    of_list [] low alike order = tt
    of_list (c ∷ []) low alike order = tt
    of_list (c ∷ d ∷ ds) low alike order =
        (record { less = ltb-true c d order.0.0; low = low.1.0; first = alike.0; second = alike.1.0 }, of_list (d ∷ ds) low.1 alike.1 order.1)

-- ---- what holds of each next pair, and carries on, holds of each two

-- the first has it with each later one
abbrev pub Later : (ℕ → ℕ → Type 0) → List ℕ → Type 0
Later R [] = Unit {0}
Later R (c ∷ cs) = AllByRecursion (R c) cs × Later R cs

pub chained : (R : ℕ → ℕ → Type 0) → ((a b c : ℕ) → R a b → R b c → R a c) → (cs : List ℕ) → AllByRecursion (λ pair. R pair.0 pair.1) (next_pairs cs) → Later R cs
chained R both [] each = tt
chained R both (c ∷ []) each = (tt, tt)
chained R both (c ∷ d ∷ ds) each =
    let rest : Later R (d ∷ ds) = chained R both (d ∷ ds) each.1 in
    ((each.0, each_weaker (R d) (R c) (λ e after. both c d e each.0 after) ds rest.0), rest)

pub later_at : (R : ℕ → ℕ → Type 0) (p : ℕ → Bool) (a n c d : ℕ) → Later R (filter p (range_with_len a n)) → a ≤ c → c < d → d < a + n → p c ≡ true → p d ≡ true → R c d
later_at R p a zero c d later low less high first second = absurd (omega (arith, low, less, high))
later_at R p a (suc n) c d later low less high first second =
    ⊎_elim
    (λ (passes : p a ≡ true).
    let all : Later R (a ∷ filter p (range_with_len (a + 1) n)) = rw passes at later in
    grind (arith, cases_eq c a, filter_at p (R a) (a + 1) n d all.0, later_at R p (a + 1) n c d all.1))
    (λ (fails : p a ≡ false).
    let rest : Later R (filter p (range_with_len (a + 1) n)) = rw fails at later in
    grind (arith, cases_eq c a, later_at R p (a + 1) n c d rest))
    (cases_Bool (p a))
