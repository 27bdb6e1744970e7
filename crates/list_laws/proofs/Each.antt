-- What holds of each element.
use Rattle.std.{proofs.{Common.{List, [], ◌∷◌, ◌++◌, map}, lemmas.List.Elements.All-contains_itself}, specs.List.{AllByRecursion, All, Contains}}

pub each_always : {X : Type 0} (P : X → Type 0) → ((x : X) → P x) → (xs : List X) → AllByRecursion P xs
each_always P always [] = tt
each_always P always (x ∷ xs) = (always x, each_always P always xs)

pub each_map : {X Y : Type 0} (P : X → Type 0) (Q : Y → Type 0) (f : X → Y) → ((x : X) → P x → Q (f x)) → (xs : List X) → AllByRecursion P xs → AllByRecursion Q (map f xs)
each_map P Q f on [] each = tt
each_map P Q f on (x ∷ xs) each = (on x each.0, each_map P Q f on xs each.1)

pub every_map : {X Y : Type 0} (Q : Y → Type 0) (f : X → Y) → ((x : X) → Q (f x)) → (xs : List X) → AllByRecursion Q (map f xs)
every_map Q f on [] = tt
every_map Q f on (x ∷ xs) = (on x, every_map Q f on xs)

pub each_middle : {X : Type 0} (P : X → Type 0) (xs : List X) (y : X) (ys : List X) → AllByRecursion P (xs ++ y ∷ ys) → P y
each_middle P [] y ys each = each.0
each_middle P (x ∷ xs) y ys each = each_middle P xs y ys each.1

-- what holds of each that the list contains holds of all
pub all_contained : {X : Type 0} (P : X → Type 0) (xs : List X) → ((x : X) → Contains xs x → P x) → All P xs
all_contained P xs holds = λ k d below. holds _ (All-contains_itself xs k d below)
