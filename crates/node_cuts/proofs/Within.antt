-- The groups of each cover are the topology's, and no more than these.
use Rattle.std.proofs.{Common.{ℕ, zero, suc, ◌+◌, ◌<◌, ◌≤◌, Bool, List, [], ◌∷◌, ◌++◌, cond, length, length-append, reverse, arith, ◌==◌, Option, None, Some, nat_lt}, lemmas.{Bool.cond_both, List.length-reverse}}
use Rattle.std.proofs.lemmas.List.{Sorted.{All-permutation, IsPermutation-reverse}, Elements.{All-append, All-cons, All-filter, All-head, All-nil, All-tail}, FromFn.{get_or-range_with_len, length-range_with_len}}
use Rattle.std.specs.{List.{All, list_any, range_with_len}, Option.option_map_or}
use Rattle.list_laws.proofs.Tests.{few_kept}
use Rattle.schedule.specs.Links.{TopologyValue}
use Rattle.node_cuts.specs.{declared.sets.Sets.Sets, Sides.NodeSet, Cuts.{all_groups, ascending, best_taken, cover, cover_back, cover_by, cover_greedily, narrower, opens, taken_along, width_of}}
use Rattle.node_cuts.specs.declared.sets.Sets.TheVariants as sets

-- these are groups of the topology, and no more than it has
pub record IsWithin (t : TopologyValue) (groups : List ℕ) : Type 0 where
  pub below : All (λ group. group < length t.groups) groups
  pub few : length groups ≤ length t.groups

pub numbers_below : (n : ℕ) → All (λ k. k < n) (range_with_len 0 n)
numbers_below n k d inside = grind (arith, length-range_with_len, get_or-range_with_len)

pub all_within : (t : TopologyValue) → IsWithin t (all_groups t)
all_within t = record { below = numbers_below (length t.groups); few = omega (arith, length-range_with_len 0 (length t.groups)) }

pub ascending_within : (t : TopologyValue) (groups : List ℕ) → IsWithin t (ascending t groups)
ascending_within t groups =
    let p : ℕ → Bool = λ group. list_any (λ other. other == group) groups in
    record {
      below = All-filter p (λ group. group < length t.groups) (all_groups t) (numbers_below (length t.groups));
      few = omega (arith, few_kept p (all_groups t), length-range_with_len 0 (length t.groups));
    }

along_below : (u : NodeSet) (t : TopologyValue) (P : ℕ → Type 0) (taken gs : List ℕ) → All P taken → All P gs → All P (taken_along u t taken gs)
along_below u t P taken [] each more = each
along_below u t P taken (g ∷ gs) each more =
    let next : List ℕ = cond (opens u t taken g) (g ∷ []) [] in
    let here : All P next = cond_both (opens u t taken g) (g ∷ []) [] (All P) (λ it. All-cons P g [] (All-head P g gs more) (All-nil P)) (λ it. All-nil P) in
    along_below u t P (taken ++ next) gs (All-append P taken next each here) (All-tail P g gs more)

along_few : (u : NodeSet) (t : TopologyValue) (taken gs : List ℕ) → length (taken_along u t taken gs) ≤ length taken + length gs
along_few u t taken [] = omega arith
along_few u t taken (g ∷ gs) =
    let next : List ℕ = cond (opens u t taken g) (g ∷ []) [] in
    let one : length next ≤ 1 = cond_both (opens u t taken g) (g ∷ []) [] (λ xs. length xs ≤ 1) (λ it. omega arith) (λ it. omega arith) in
    omega (arith, along_few u t (taken ++ next) gs, length-append taken next, one)

along_within : (u : NodeSet) (t : TopologyValue) (gs : List ℕ) → IsWithin t gs → IsWithin t (taken_along u t [] gs)
along_within u t gs is = record { below = along_below u t (λ group. group < length t.groups) [] gs (All-nil (λ group. group < length t.groups)) is.below; few = omega (arith, along_few u t [] gs, is.few) }

pub reversed_within : (t : TopologyValue) (gs : List ℕ) → IsWithin t gs → IsWithin t (reverse gs)
reversed_within t gs is = record { below = All-permutation (λ group. group < length t.groups) gs (reverse gs) (IsPermutation-reverse gs) is.below; few = omega (arith, length-reverse gs, is.few) }

pub cover_within : (u : NodeSet) (t : TopologyValue) → IsWithin t (cover u t)
cover_within u t = along_within u t (all_groups t) (all_within t)

pub back_within : (u : NodeSet) (t : TopologyValue) → IsWithin t (cover_back u t)
back_within u t = reversed_within t (taken_along u t [] (reverse (all_groups t))) (along_within u t (reverse (all_groups t)) (reversed_within t (all_groups t) (all_within t)))

by_best : (t : TopologyValue) (taken : List ℕ) (f : ℕ → List ℕ) → ((g : ℕ) → IsWithin t (f g)) → (best : Option ℕ) → IsWithin t (option_map_or f best (ascending t taken))
by_best t taken f each None = ascending_within t taken
by_best t taken f each (Some g) = each g

best_within : (u : NodeSet) (t : TopologyValue) (turns : ℕ) (taken : List ℕ) → IsWithin t (best_taken u t turns taken)
best_within u t zero taken = all_within t
best_within u t (suc turns) taken = grind (arith, by_best, best_within u t turns)

pub greedily_within : (u : NodeSet) (t : TopologyValue) → IsWithin t (cover_greedily u t)
greedily_within u t = best_within u t (length t.groups) []

pub narrower_within : (t : TopologyValue) (first second : List ℕ) → IsWithin t first → IsWithin t second → IsWithin t (narrower t first second)
narrower_within t first second one other = cond_both (nat_lt (width_of t second) (width_of t first)) second first (IsWithin t) (λ less. other) (λ no_less. one)

pub within_by : (s : Sets) (u : NodeSet) (t : TopologyValue) → IsWithin t (cover_by s u t)
within_by sets.Nothing u t = cover_within u t
within_by sets.Listed u t = cover_within u t
within_by sets.All u t = grind (arith, narrower_within, cover_within, back_within, greedily_within)
