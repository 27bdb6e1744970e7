-- The rounds that an assignment says: one of each step, the extra rounds that are true, and what is left to the last step.
use Rattle.std.proofs.lemmas.Grind.{common_steps}
use Rattle.std.proofs.Common.{◌≡◌, ℕ, zero, suc, ◌+◌, ◌-◌, ◌<◌, ◌≤◌, Bool, true, false, cond, eqb, List, [], ◌∷◌, length, get_or, sum, refl, sym, ap, ◌∙◌, subst, arith, if◌then◌else◌, flat_map, count_by, sum_by, All}
use Rattle.std.{specs.List.range_with_len, proofs.lemmas.Bool.Decides.nat_tests}
use Rattle.std.proofs.lemmas.List.{Sums.{sum_by-le-sum_by, sum_by-cons, sum_by-append, sum-map, get_or-le-sum_by}, FromFn.{length-range_with_len, get_or-range_with_len, length-map-range_with_len, get_or-map-range_with_len}}
use Rattle.schedule.specs.Sends.{IsRound, IsStep}
use Rattle.cnf_formula.specs.Literals.{is_true}
use Rattle.cardinality.specs.Counting.{true_inputs}
use Rattle.round_encoding.specs.{Frames.{Frame, extra_round}, Rounding.count_of_rounds, Decoding.{rounds_said, rounds_left, rounds_of}}
use Rattle.send_encoding.{specs.Variables.steps_of, proofs.{Everywhere.{From, in_map, in_range}, Complete.count_alike}}

-- a sum in which one number of a range has so much more
sum_with_more : (g : ℕ → ℕ) (v a n last : ℕ) → a + n ≡ last → sum_by (λ k. g k + (if eqb k last then v else 0)) (range_with_len a (suc n)) ≡ sum_by g (range_with_len a (suc n)) + v
sum_with_more g v a zero last e = grind (arith, nat_tests, sum_by-cons (λ k. g k + (if eqb k last then v else 0)) a [], sum_by-cons g a [])
sum_with_more g v a (suc n) last e = grind (arith, nat_tests, sum_by-cons (λ k. g k + (if eqb k last then v else 0)) a (range_with_len (a + 1) (suc n)), sum_by-cons g a (range_with_len (a + 1) (suc n)), sum_with_more g v (a + 1) n last)

one_more_each : (q : ℕ → ℕ) (a n : ℕ) → sum_by (λ k. 1 + q k) (range_with_len a n) ≡ n + sum_by q (range_with_len a n)
one_more_each q a zero = refl
one_more_each q a (suc n) = omega (arith, sum_by-cons (λ k. 1 + q k) a (range_with_len (a + 1) n), sum_by-cons q a (range_with_len (a + 1) n), one_more_each q (a + 1) n)

part_of_sum : (q : ℕ → ℕ) (a n k : ℕ) → a ≤ k → k < a + n → q k ≤ sum_by q (range_with_len a n)
part_of_sum q a n k low high =
    let few : k - a < n = omega (arith, low, high) in
    let is : get_or (range_with_len a n) (k - a) 0 ≡ k = get_or-range_with_len a n (k - a) 0 few ∙ omega (arith, low) in
    omega (arith, ap q is, get_or-le-sum_by q (range_with_len a n) (k - a) 0 (omega (arith, few, length-range_with_len a n)))

count_flat_is : {X A : Type 0} (p : A → Bool) (g : X → List A) (xs : List X) → count_by p (flat_map g xs) ≡ sum_by (λ x. count_by p (g x)) xs
count_flat_is p g [] = refl
count_flat_is p g (x ∷ xs) =
    sum_by-append (λ y. cond (p y) 1 0) (g x) (flat_map g xs) ∙ ap (λ n. count_by p (g x) + n) (count_flat_is p g xs) ∙ sym (sum_by-cons (λ x. count_by p (g x)) x xs)

sum_alike_all : {X : Type 0} (f g : X → ℕ) (xs : List X) → ((x : X) → f x ≡ g x) → sum_by f xs ≡ sum_by g xs
sum_alike_all f g xs h = omega (arith, sum_by-le-sum_by f g xs (λ x. omega (arith, h x)), sum_by-le-sum_by g f xs (λ x. omega (arith, h x)))

-- ---- extra rounds in their order

none_above : (p : ℕ → Bool) (a n : ℕ) → ((j : ℕ) → a ≤ j → j + 1 ≤ a + n → p (j + 1) ≡ true → p j ≡ true) → p a ≡ false → count_by p (range_with_len (a + 1) n) ≡ 0
none_above p a zero order unused = refl
none_above p a (suc n) order unused = grind (arith, sum_by-cons (λ j. cond (p j) 1 0) (a + 1) (range_with_len (a + 1 + 1) n), order a, none_above p (a + 1) n (λ j low high t. order j (omega (arith, low)) (omega (arith, high)) t))

-- what is used in order and not to its end is unused from its count on
pub first_unused : (p : ℕ → Bool) (a n : ℕ) → ((j : ℕ) → a ≤ j → j + 1 < a + n → p (j + 1) ≡ true → p j ≡ true) → count_by p (range_with_len a n) < n → p (a + count_by p (range_with_len a n)) ≡ false
first_unused p a zero order few = absurd (omega (arith, few))
first_unused p a (suc n) order few = grind (arith, sum_by-cons (λ j. cond (p j) 1 0) a (range_with_len (a + 1) n), none_above p a n (λ j low high u. order j low (omega (arith, high)) u), first_unused p (a + 1) n (λ j low high u. order j (omega (arith, low)) (omega (arith, high)) u))

-- ---- the rounds of an assignment

module _ (f : Frame) (values : List Bool) where
  abbrev pub extra_said : ℕ → ℕ
  extra_said k = count_by (λ j. is_true values (extra_round f k j)) (range_with_len 1 f.extra)

  abbrev steps : ℕ
  steps = f.map.steps

  abbrev all_said : ℕ
  all_said = sum_by extra_said (range_with_len 1 steps)

  pub all_are : true_inputs values (count_of_rounds f).inputs ≡ all_said
  all_are = grind (arith, nat_tests, common_steps, count_flat_is, sum_alike_all, count_by, count_alike)

  abbrev at_step : ℕ → ℕ
  at_step k = rounds_said f values k + (if eqb k steps then rounds_left f values else 0)

  pub rounds_many : length (rounds_of f values) ≡ steps
  rounds_many = length-map-range_with_len at_step 1 steps

  module _ (few : true_inputs values (count_of_rounds f).inputs ≤ f.extra) (some : 0 < steps) where
    left_is : rounds_left f values ≡ f.extra - all_said
    left_is = grind (arith, sum-map (rounds_said f values) (steps_of f.map) ∙ one_more_each extra_said 1 steps)

    pub rounds_sum : sum (rounds_of f values) ≡ steps + f.extra
    rounds_sum =
        let last : ℕ = steps - 1 in
        let is : suc last ≡ steps = omega (arith, some) in
        let more : sum_by at_step (range_with_len 1 steps) ≡ sum_by (rounds_said f values) (range_with_len 1 steps) + rounds_left f values =
        subst (λ n. sum_by at_step (range_with_len 1 n) ≡ sum_by (rounds_said f values) (range_with_len 1 n) + rounds_left f values) is (sum_with_more (rounds_said f values) (rounds_left f values) 1 last steps (omega (arith, some))) in
        omega (arith, sum-map at_step (steps_of f.map), more, one_more_each extra_said 1 steps, left_is, few, all_are)

    last_few : (k : ℕ) (b : Bool) → extra_said k ≤ all_said → 1 + extra_said k + (if b then rounds_left f values else 0) ≤ 1 + f.extra
    last_few k true part = omega (arith, part, left_is, few, all_are)
    last_few k false part = omega (arith, part, few, all_are)

    pub rounds_each : f.extra ≤ 8 → All IsRound (rounds_of f values)
    rounds_each small =
        in_map IsRound (From 1 steps) at_step (steps_of f.map) (λ k at.
        let part = part_of_sum extra_said 1 steps k at.0 at.1 in
        record { some = omega arith; few = omega (arith, last_few k (eqb k steps) part, small) }) (in_range 1 steps)

  pub rounds_at_least : (k : ℕ) → IsStep steps k → 1 + extra_said k ≤ get_or (rounds_of f values) (k - 1) 0
  rounds_at_least k step = grind (arith, get_or-map-range_with_len)
