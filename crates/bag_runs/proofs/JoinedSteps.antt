-- Steps of joined runs: one that adds, one that copies, and what the greatest of its senders has.
use Rattle.std.{proofs.Common.{◌≡◌, ℕ, zero, suc, ◌+◌, ◌<◌, ◌≤◌, ◌⊎◌, List, [], ◌∷◌, refl, arith, fold, max}, specs.List.{AllByRecursion, reduce}}
use Rattle.schedule.specs.{Sends.ScheduleValue, Bags.{Bag, Bags}, Summing.summed_step, JoinedRuns.{copied_step, joined_after, replaced}}
use Rattle.bag_runs.specs.Throughout.{AddsThroughout}

-- ---- which steps add

-- one of the first so many steps adds
pub step_adds : (start : Bags) (s : ScheduleValue) (adding n : ℕ) → n + 1 ≤ adding → joined_after start s adding (suc n) ≡ summed_step s.sends (joined_after start s adding n) (n + 1)
step_adds start s adding n small = grind arith

-- and a later one copies
pub step_copies : (start : Bags) (s : ScheduleValue) (adding n : ℕ) → adding < n + 1 → joined_after start s adding (suc n) ≡ copied_step s.sends (joined_after start s adding n) (n + 1)
step_copies start s adding n past = grind arith

-- as far as steps add, the bags are those of the sum
pub adding_throughout : AddsThroughout
adding_throughout start s adding zero small = refl
adding_throughout start s adding (suc n) small = grind (arith, step_adds, adding_throughout start s adding n (omega (arith, small)))

-- ---- the greatest sender

one_of_two : (a b : ℕ) → (max a b ≡ a) ⊎ (max a b ≡ b)
one_of_two a b = grind arith

-- what holds of each number holds of the greatest
pub greatest_has : (P : ℕ → Type 0) (x : ℕ) (xs : List ℕ) → P x → AllByRecursion P xs → P (fold max x xs)
greatest_has P x [] it each = it
greatest_has P x (y ∷ xs) it each = grind (arith, one_of_two, greatest_has P (max x y) xs)

-- where each sender has the same bag, and the pair has it where there is none, that bag comes to the pair
pub replaced_has : (before : Bags) (pair : ℕ × ℕ) (bag : Bag) (senders : List ℕ) → AllByRecursion (λ u. before (pair.0, u) ≡ bag) senders → (senders ≡ [] → before pair ≡ bag)
    → replaced before pair (reduce max senders) ≡ bag
replaced_has before pair bag [] each none = none refl
replaced_has before pair bag (x ∷ xs) each none = greatest_has (λ u. before (pair.0, u) ≡ bag) x xs each.0 each.1
