-- A placement that is made pair by pair.
use Rattle.std.proofs.{Common.{arith, ◌≡◌, ℕ, ◌+◌, ◌<◌, Bool, true, false, ◌&&◌, ◌||◌, eqb, List, [], length, get_or, take, refl, sym, ap, ◌∙◌}, lemmas.{Bool.{eqb-true, eq-eqb}, List.Folds.list_any_more}}
use Rattle.std.{proofs.lemmas.List.Elements.{All-from_recursion, All-filter, All-get_or}, specs.List.list_any}
use Rattle.list_laws.proofs.Tests.{same_test}
use Rattle.schedule.{specs.Placed.{PlacementValue, same_pair, holds, all_pairs, placed, IsPlacement, empty_placement, with_pair}, proofs.Placing.{IsBelow, all_below, placed-alike, placed-none, holds-placed}}

abbrev pub among : List (ℕ × ℕ) → ℕ × ℕ → Bool
among pairs pair = list_any (same_pair pair) pairs

abbrev pub of_pairs : ℕ → ℕ → List (ℕ × ℕ) → PlacementValue
of_pairs chunks nodes pairs = record { chunks = chunks; nodes = nodes; pairs = pairs }

-- the pairs of a placement are in range
pub pair_below : (chunks nodes : ℕ) (pairs : List (ℕ × ℕ)) (i : ℕ) (d : ℕ × ℕ) → IsPlacement (of_pairs chunks nodes pairs) → i < length pairs → IsBelow chunks nodes (get_or pairs i d)
pair_below chunks nodes pairs i d ok within = grind (arith, All-filter (among pairs) (IsBelow chunks nodes) (all_pairs chunks nodes) (All-from_recursion (IsBelow chunks nodes) (all_pairs chunks nodes) (all_below chunks nodes)), All-get_or)

pub none_inserted : (chunks nodes : ℕ) → empty_placement chunks nodes ≡ placed chunks nodes (among [])
none_inserted chunks nodes = sym (placed-none chunks nodes (among []) (λ pair c n. refl))

same_turned : (a b : ℕ) → eqb a b ≡ eqb b a
same_turned a b = same_test (eqb a b) (eqb b a) (λ t. eq-eqb b a (sym (eqb-true a b t))) (λ t. eq-eqb a b (sym (eqb-true b a t)))

pair_turned : (a b : ℕ × ℕ) → same_pair a b ≡ same_pair b a
pair_turned a b = ap (λ t. t && eqb a.1 b.1) (same_turned a.0 b.0) ∙ ap (λ t. eqb b.0 a.0 && t) (same_turned a.1 b.1)

or_turned : (a b : Bool) → (a || b) ≡ (b || a)
or_turned true true = refl
or_turned true false = refl
or_turned false true = refl
or_turned false false = refl

-- one pair more
pub one_inserted : (chunks nodes : ℕ) (p : PlacementValue) (pairs : List (ℕ × ℕ)) (i : ℕ) (d : ℕ × ℕ) → p ≡ placed chunks nodes (among (take i pairs)) → i < length pairs → with_pair p (get_or pairs i d) ≡ placed chunks nodes (among (take (i + 1) pairs))
one_inserted chunks nodes p pairs i d so within =
    let before : List (ℕ × ℕ) = take i pairs in
    let x : ℕ × ℕ = get_or pairs i d in
    ap (λ q. with_pair q x) so
    ∙ placed-alike chunks nodes (λ other. same_pair x other || holds (placed chunks nodes (among before)) other) (among (take (i + 1) pairs)) (λ pair c n.
    ap (λ b. same_pair x pair || b) (holds-placed chunks nodes (among before) pair c n)
    ∙ or_turned (same_pair x pair) (among before pair)
    ∙ ap (λ b. among before pair || b) (pair_turned x pair)
    ∙ sym (list_any_more (same_pair pair) pairs i d within))
