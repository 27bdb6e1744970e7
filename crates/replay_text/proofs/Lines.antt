-- The lines of a replay, one after the other.
use Rattle.std.proofs.Common.{◌≡◌, ℕ, zero, suc, ◌+◌, ◌-◌, ◌∷◌, [], ◌++◌, List, Bool, if◌then◌else◌, decimal, map, filter, length, Option, None, Some, slice_get, slice_index, refl, ◌∙◌, ap, arith, append_assoc, sub-one}
use Rattle.std.{proofs.lemmas.{Grind.{common_steps, flat_map-append}, List.{map-append, Elements.filter-append, Folds.flat_map-map}}, specs.{Prelude.unwrap_or, Option.option_map, List.{flat_map, range_with_len, last_or}}}
use Rattle.bag_runs.specs.Kept.{counted}
use Rattle.text_lines.{specs.Text.{line, text_of}, proofs.Words.join_fields}
use Rattle.replay_text.specs.{Replay.numbered_steps, inner.Appended.{digits_of, last_of, step_head}}

-- what is appended twice
pub appends : (a b c x y all : List ℕ) → b ≡ a ++ x → c ≡ b ++ y → x ++ y ≡ all → c ≡ a ++ all
appends a b c x y all p q e = q ∙ ap (λ zs. zs ++ y) p ∙ append_assoc a x y ∙ ap (λ zs. a ++ zs) e

-- steps, a verdict and what stands behind it, appended one after the other
pub run_text : (steps more : List (List (List ℕ))) (verdict : List (List ℕ)) (a b c d : List ℕ) → b ≡ a ++ text_of steps → c ≡ b ++ line verdict → d ≡ c ++ text_of more → d ≡ a ++ text_of (steps ++ (verdict ∷ more))
run_text steps more verdict a b c d p q r = grind (arith, common_steps, flat_map-append)

range_behind : (a n : ℕ) → range_with_len a (n + 1) ≡ range_with_len a n ++ (a + n) ∷ []
range_behind a zero = grind (arith, common_steps)
range_behind a (suc n) = grind (arith, common_steps, range_behind (a + 1) n)

-- a first word, and each other behind a space
line_is : (word : List ℕ) (words : List (List ℕ)) → line (word ∷ words) ≡ word ++ (flat_map (λ w. 32 ∷ w) words ++ 10 ∷ [])
line_is word words = grind (arith, common_steps, join_fields)

-- the other words are of this form
pub mapped_line : {X : Type 0} (word : List ℕ) (f : X → List ℕ) (xs : List X) → line (word ∷ map f xs) ≡ word ++ (flat_map (λ x. 32 ∷ f x) xs ++ 10 ∷ [])
mapped_line word f xs = line_is word (map f xs) ∙ ap (λ t. word ++ (t ++ 10 ∷ [])) (flat_map-map (λ w. 32 ∷ w) f xs)

-- one more line of those that are made of numbers
pub lines_more : (f : ℕ → List (List ℕ)) (n : ℕ) → text_of (map f (range_with_len 0 (n + 1))) ≡ text_of (map f (range_with_len 0 n)) ++ line (f n)
lines_more f n = grind (arith, common_steps, range_behind, map-append, flat_map-append)

-- one more piece of those that are made of numbers
pub flat_more : (f : ℕ → List ℕ) (n : ℕ) → flat_map f (range_with_len 0 (n + 1)) ≡ flat_map f (range_with_len 0 n) ++ f n
flat_more f n = grind (arith, common_steps, range_behind, flat_map-append)

-- one more digit
pub digits_more : (counts : List ℕ) (n : ℕ) → digits_of (counted (n + 1) counts) ≡ digits_of (counted n counts) ++ (48 + slice_index counts n) ∷ []
digits_more counts n = grind (arith, common_steps, range_behind, map-append)

-- one more chunk that is looked at
pub fields_more : (test : ℕ → Bool) (n : ℕ) → flat_map (λ chunk. 32 ∷ decimal chunk) (filter test (range_with_len 0 (n + 1))) ≡ flat_map (λ chunk. 32 ∷ decimal chunk) (filter test (range_with_len 0 n)) ++ (if test n then 32 ∷ decimal n else [])
fields_more test n = grind (arith, common_steps, range_behind, filter-append, flat_map-append)

-- one more step
pub steps_more : (k : ℕ) (steps : List (List (List (List ℕ)))) (lines : List (List (List ℕ))) → numbered_steps k (steps ++ lines ∷ []) ≡ numbered_steps k steps ++ (step_head (k + length steps) ∷ lines)
steps_more k [] lines = grind (arith, common_steps)
steps_more k (x ∷ steps) lines = grind (arith, common_steps, steps_more (k + 1) steps lines)

last_after : {X : Type 0} (f : X → List (List (List ℕ))) (xs : List X) (y : X) (o : Option (List (List (List ℕ)))) → last_or o (map f (y ∷ xs)) ≡ option_map f (slice_get (y ∷ xs) (length xs))
last_after f [] y o = refl
last_after f (z ∷ xs) y o = last_after f xs z (Some (f y))

-- the lines of the last of these
pub last_is : {X : Type 0} (f : X → List (List (List ℕ))) (xs : List X) → last_of (map f xs) ≡ unwrap_or (option_map f (slice_get xs (length xs - 1))) []
last_is f [] = refl
last_is f (y ∷ xs) = rw sub-one (ap (λ o. unwrap_or o []) (last_after f xs y None))
