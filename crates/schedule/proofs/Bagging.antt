-- Bags keep a count for each node.
use Rattle.std.proofs.{Common.{◌≡◌, ℕ, zero, suc, ◌+◌, Bool, true, false, cond, List, [], ◌∷◌, length, map, Option, Some, None, arith, ◌<◌, get_or, ap, ◌∙◌, refl}, lemmas.List.{length-map, FromFn.length-map-range_with_len}}
use Rattle.std.{proofs.lemmas.Slice.Zip.length-zip, specs.List.{filter, fold, zip, range_with_len}}
use Rattle.schedule.specs.{declared.hop.Hop.Hop, Sends.ScheduleValue, Bags.{Bag, Bags, added, contributions, one_of_each}, Summing.{bags_after, goes_to, summed_step}, JoinedRuns.{copied_step, joined_after, replaced}}

-- each of the bags has so many counts
abbrev Counted : ℕ → Bags → Type 0
Counted nodes bags = (pair : ℕ × ℕ) → length (bags pair) ≡ nodes

pub counted_sum : (nodes : ℕ) (a b : Bag) → length a ≡ nodes → length b ≡ nodes → length (added a b) ≡ nodes
counted_sum nodes a b first second = omega (arith, first, second, length-map (zip a b) (λ (x, y). x + y), length-zip a b)

counted_fold : (nodes : ℕ) (before : Bags) → Counted nodes before → (hops : List Hop) (bag : Bag) → length bag ≡ nodes → length (fold added bag (map (λ h. before (h.chunk, h.from)) hops)) ≡ nodes
counted_fold nodes before counted [] bag is = is
counted_fold nodes before counted (h ∷ hops) bag is = grind (arith, counted_sum, counted_fold nodes before counted hops)

pub counted_summed : (nodes : ℕ) (sends : List Hop) (before : Bags) (step : ℕ) → Counted nodes before → Counted nodes (summed_step sends before step)
counted_summed nodes sends before step counted pair = counted_fold nodes before counted (filter (goes_to step pair) sends) (before pair) (counted pair)

counted_start : (nodes : ℕ) → Counted nodes (contributions nodes)
counted_start nodes pair = length-map-range_with_len _ 0 nodes

pub counted_after : (nodes : ℕ) (sends : List Hop) (n : ℕ) (pair : ℕ × ℕ) → length (bags_after (contributions nodes) sends n pair) ≡ nodes
counted_after nodes sends zero pair = counted_start nodes pair
counted_after nodes sends (suc n) pair = counted_summed nodes sends (bags_after (contributions nodes) sends n) (n + 1) (counted_after nodes sends n) pair

counted_replaced : (nodes : ℕ) (before : Bags) → Counted nodes before → (pair : ℕ × ℕ) (from : Option ℕ) → length (replaced before pair from) ≡ nodes
counted_replaced nodes before counted pair None = counted pair
counted_replaced nodes before counted pair (Some from) = counted (pair.0, from)

counted_joined : (nodes : ℕ) (sends : List Hop) (before : Bags) (step : ℕ) → Counted nodes before → (adds : Bool) → Counted nodes (cond adds (summed_step sends before step) (copied_step sends before step))
counted_joined nodes sends before step counted true pair = counted_summed nodes sends before step counted pair
counted_joined nodes sends before step counted false pair = counted_replaced nodes before counted pair _

pub counted_run : (nodes : ℕ) (s : ScheduleValue) (adding n : ℕ) (pair : ℕ × ℕ) → length (joined_after (contributions nodes) s adding n pair) ≡ nodes
counted_run nodes s adding zero pair = counted_start nodes pair
counted_run nodes s adding (suc n) pair = counted_joined nodes s.sends (joined_after (contributions nodes) s adding n) (n + 1) (counted_run nodes s adding n) _ pair

-- a list of ones, by its counts
all_ones : (bag : Bag) (a : ℕ) → ((i : ℕ) → i < length bag → get_or bag i 0 ≡ 1) → bag ≡ map (λ _. 1) (range_with_len a (length bag))
all_ones [] a ones = refl
all_ones (x ∷ bag) a ones =
    let first : x ≡ 1 = ones 0 (omega arith) in
    let rest : bag ≡ map (λ _. 1) (range_with_len (a + 1) (length bag)) = all_ones bag (a + 1) (λ i inside. ones (suc i) (omega (arith, inside))) in
    ap (λ y. y ∷ bag) first ∙ ap (λ ys. 1 ∷ ys) rest

-- a bag with one of each node, by its counts
pub one_each : (nodes : ℕ) (bag : Bag) → length bag ≡ nodes → ((i : ℕ) → i < nodes → get_or bag i 0 ≡ 1) → bag ≡ one_of_each nodes
one_each nodes bag counted ones = grind (arith, all_ones)
