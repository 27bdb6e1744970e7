-- Without links nothing is brought and nothing adds up.
use Rattle.std.{proofs.Common.{◌≡◌, ℕ, zero, suc, ◌+◌, true, false, List, [], ◌∷◌, length, get_or, refl, sym, ap, ◌∙◌, arith}, specs.List.All}
use Rattle.schedule.specs.{declared.hop.Hop.Hop, Links.is_usable, Sends.{ScheduleValue, link_of}, Placed.{PlacementValue, holds}, Running.{after, step_of}, Solving.Solvable, Bags.{Bags, contributions, one_of_each}}
use Rattle.schedule.specs.{Summing.{SummedSolvable, bags_after}, Rows.{at_root, everywhere, plan, two_alone}}

-- without a group no send has a usable link
none_usable : (nodes : ℕ) (hops : List Hop) → All (λ h. is_usable (record { nodes = nodes; groups = [] }) (link_of h) ≡ true) hops → hops ≡ []
none_usable nodes [] usable = refl
none_usable nodes (h ∷ hops) usable = let impossible : false ≡ true = usable 0 h (omega arith) in absurd cc

-- without sends every bag stays
still : (start : Bags) (n : ℕ) (pair : ℕ × ℕ) → bags_after start [] n pair ≡ start pair
still start zero pair = refl
still start (suc n) pair = still start n pair

pub alone_never_sums : (steps rounds : ℕ) → SummedSolvable two_alone (at_root 1 2) steps rounds → ⊥
alone_never_sums steps rounds solvable =
    let s = solvable.schedule in
    let none : s.sends ≡ [] = none_usable 2 s.sends solvable.sums.fits.usable in
    let ends : bags_after (contributions 2) s.sends (length s.rounds) (0, 0) ≡ one_of_each 2 = solvable.sums.sums 0 (0, 0) (omega arith) in
    let same : contributions 2 (0, 0) ≡ one_of_each 2 = sym (still (contributions 2) (length s.rounds) (0, 0)) ∙ (ap (λ hops. bags_after (contributions 2) hops (length s.rounds) (0, 0)) (sym none) ∙ ends) in
    let counts : 0 ≡ 1 = ap (λ bag. get_or bag 1 0) same in
    absurd (omega (arith, counts))

-- without sends the chunk stays where it is
stays : (rounds : List ℕ) (n : ℕ) → after (at_root 1 2) (plan rounds []) n ≡ at_root 1 2
stays rounds zero = refl
stays rounds (suc n) = ap (λ held. step_of [] held (n + 1)) (stays rounds n)

pub alone_never_solves : (steps rounds : ℕ) → Solvable two_alone (at_root 1 2) (everywhere 1 2) steps rounds → ⊥
alone_never_solves steps rounds solvable =
    let s : ScheduleValue = solvable.schedule in
    let none : s.sends ≡ [] = none_usable 2 s.sends solvable.solves.fits.usable in
    let delivered : holds (after (at_root 1 2) s (length s.rounds)) (0, 1) ≡ true = solvable.solves.delivers 1 (0, 1) (omega arith) in
    let same : after (at_root 1 2) s (length s.rounds) ≡ at_root 1 2 =
    ap (λ hops. after (at_root 1 2) (plan s.rounds hops) (length s.rounds)) none ∙ stays s.rounds (length s.rounds) in
    let held : false ≡ true = ap (λ (p : PlacementValue). holds p (0, 1)) (sym same) ∙ delivered in
    absurd cc
