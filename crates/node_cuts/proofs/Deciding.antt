-- The greatest fraction alone tells whether one of the sets refutes so many rounds.
use Rattle.std.proofs.{Common.{◌≡◌, ℕ, ◌*◌, ◌<◌, ◌≤◌, Bool, true, false, List, [], ◌∷◌, ◌++◌, map, refl, sym, ap, ◌∙◌, subst, arith, append_assoc, Option, None, Some, filter, nat_lt}, lemmas.List.append-nil}
use Rattle.std.proofs.{Math.Nat.{mul_comm, mul_right_comm, mul-le-mul_right, mul-lt-mul_of_pos_right, lt_of_mul-lt-mul_right, mul-pos}, lemmas.Bool.{ltb-true, ltb-false, lt-ltb, le-ltb, true_from_ne_false}}
use Rattle.std.specs.{List.{AllByRecursion, list_any}, Option.{is_some, unwrap_or}}
use Rattle.list_laws.proofs.{Each.each_middle, Tests.same_test}
use Rattle.schedule.{specs.Links.TopologyValue, proofs.First.{any_found, among_each, each_append, each_passes}}
use Rattle.collective_spec.specs.{declared.{spec.Spec.Spec, instance.Instance.Instance}, Kinds.allows, Collectives.{kind_in, spec_instance}}
use Rattle.node_cuts.specs.{declared.{sets.Sets.Sets, floor.Floor.Floor}, Sides.{NodeSet, node_sets}, Cuts.{cut_of, first_cut_of, need_of, width_by}, inner.Refuting.cut_refutes}
use Rattle.node_cuts.specs.Floors.{exceeds, first_greatest, floor_of, fraction_of, fractions, greater_of, has_need, least_count, nothing_over_1}
use Rattle.node_cuts.proofs.{Best.{IsBest, Positive, any_middle, best_is, step}, Crossing.{first_by_set, found_any}, Least.{least_least, least_positive}, Scaling.in_proportion}

-- the fraction times the chunk count is more than the rounds
abbrev pub is_above : ℕ → ℕ → Floor → Bool
is_above c r f = nat_lt (f.below * r) (f.above * c)

-- ---- one fraction against a greater one

greater_is_above : (c r : ℕ) (b x : Floor) → 0 < c → 0 < b.above → exceeds x b ≡ false → is_above c r x ≡ true → is_above c r b ≡ true
greater_is_above c r b x some b_some no_greater above =
    let first : x.above * b.below ≤ b.above * x.below = ltb-false (b.above * x.below) (x.above * b.below) no_greater in
    let second : x.below * r < x.above * c = ltb-true (x.below * r) (x.above * c) above in
    true_from_ne_false (is_above c r b) (λ under.
    let no_less : b.above * c ≤ b.below * r = ltb-false (b.below * r) (b.above * c) under in
    let positive : 0 < b.above * c = mul-pos b_some some in
    let some_below : 0 * r < b.below * r = omega arith in
    let one : b.above * c * x.below ≤ b.below * r * x.below = mul-le-mul_right x.below no_less in
    let two : x.below * r * b.below < x.above * c * b.below = mul-lt-mul_of_pos_right second (lt_of_mul-lt-mul_right r some_below) in
    let three : x.above * b.below * c ≤ b.above * x.below * c = mul-le-mul_right c first in
    let left : b.below * r * x.below ≡ x.below * r * b.below = mul_right_comm b.below r x.below ∙ ap (λ v. v * r) (mul_comm b.below x.below) ∙ sym (mul_right_comm x.below r b.below) in
    omega (arith, mul_right_comm x.above c b.below, mul_right_comm b.above x.below c))

-- ---- the first of the greatest

best_from : (before others : List Floor) (best : Option Floor) → AllByRecursion Positive before → AllByRecursion Positive others → IsBest before best → (b : Option Floor) × IsBest (before ++ others) b
best_from before [] best first each is = (best, subst (λ fs. IsBest fs best) (sym (append-nil before)) is)
best_from before (f ∷ others) best first each is =
    let more = best_from (before ++ f ∷ []) others (greater_of best f) (each_append Positive before (f ∷ []) first (each.0, tt)) each.1 (step before best f first each.0 is) in
    (more.0, subst (λ fs. IsBest fs more.0) (append_assoc before (f ∷ []) others) more.1)

of_best : (c r : ℕ) (fs : List Floor) (best : Option Floor) → 0 < c → AllByRecursion Positive fs → IsBest fs best → list_any (is_above c r) fs ≡ is_above c r (unwrap_or best nothing_over_1)
of_best c r fs None some each is =
    let nothing : 0 * c ≡ 0 = omega arith in
    ap (list_any (is_above c r)) is ∙ sym (le-ltb (1 * r) (0 * c) (omega (arith, nothing)))
of_best c r fs (Some b) some each is =
    let b_some : Positive b = each_middle Positive is.before b is.after (subst (AllByRecursion Positive) is.whole each) in
    same_test (list_any (is_above c r) fs) (is_above c r b)
    (λ any.
    let found = any_found (is_above c r) fs any in
    greater_is_above c r b found.0 some (ltb-true 0 b.above b_some) (among_each (λ x. exceeds x b ≡ false) found.0 fs is.greatest found.1) found.2)
    (λ above. ap (list_any (is_above c r)) is.whole ∙ any_middle (is_above c r) is.before b is.after above)

greatest_decides : (c r : ℕ) (fs : List Floor) → 0 < c → AllByRecursion Positive fs → list_any (is_above c r) fs ≡ is_above c r (first_greatest fs)
greatest_decides c r fs some each = grind (arith, best_from [] fs None tt each refl, of_best c r fs, best_is fs)

-- ---- the sets

nothing_above : (c r : ℕ) (f : Floor) → has_need f ≡ false → is_above c r f ≡ false
nothing_above c r f none = grind arith

any_kept : {X : Type 0} (c r : ℕ) (q : X → Bool) (g : X → Floor) → ((x : X) → q x ≡ is_above c r (g x)) → (xs : List X) → list_any q xs ≡ list_any (is_above c r) (filter has_need (map g xs))
any_kept c r q g told [] = refl
any_kept c r q g told (x ∷ xs) = grind (arith, nothing_above, any_kept c r q g told xs)

-- a set refutes exactly where its fraction times the chunk count is more than the rounds
set_told : (sets : Sets) (t : TopologyValue) (spec : Spec) (c r : ℕ) → 0 < t.nodes → allows (kind_in spec) t.nodes c ≡ true → (u : NodeSet)
    → cut_refutes sets u t (spec_instance spec t.nodes c).pre (spec_instance spec t.nodes c).post r ≡ is_above c r (fraction_of sets t spec u)
set_told sets t spec c r some allowed u =
    let least : ℕ = least_count (kind_in spec) t.nodes in
    let n : ℕ = need_of u (spec_instance spec t.nodes least).pre (spec_instance spec t.nodes least).post in
    let k : ℕ = need_of u (spec_instance spec t.nodes c).pre (spec_instance spec t.nodes c).post in
    let w : ℕ = width_by sets u t in
    let left : w * least * r ≡ w * r * least = mul_right_comm w least r in
    let right : k * least ≡ n * c = in_proportion u spec t.nodes c some allowed in
    same_test (nat_lt (w * r) k) (nat_lt (w * least * r) (n * c))
    (λ less. let more : w * r * least < k * least = mul-lt-mul_of_pos_right (ltb-true (w * r) k less) (least_positive (kind_in spec) t.nodes some) in lt-ltb (w * least * r) (n * c) (omega arith))
    (λ less. let whole : w * r * least < k * least = omega (arith, ltb-true (w * least * r) (n * c) less) in lt-ltb (w * r) k (lt_of_mul-lt-mul_right least whole))

allowed_some : (spec : Spec) (nodes c : ℕ) → 0 < nodes → allows (kind_in spec) nodes c ≡ true → 0 < c
allowed_some spec nodes c some allowed = omega (arith, least_least (kind_in spec) nodes c allowed, least_positive (kind_in spec) nodes some)

pub floor_decides : (sets : Sets) (t : TopologyValue) (spec : Spec) (c r : ℕ) → 0 < t.nodes → allows (kind_in spec) t.nodes c ≡ true
    → is_some (first_cut_of sets t (spec_instance spec t.nodes c).pre (spec_instance spec t.nodes c).post r) ≡ is_above c r (floor_of sets t spec)
floor_decides sets t spec c r some allowed =
    let i : Instance = spec_instance spec t.nodes c in
    ap is_some (first_by_set sets t i.pre i.post r)
    ∙ found_any (cut_of sets t i.pre i.post) (λ u. cut_refutes sets u t i.pre i.post r) (node_sets sets t.nodes)
    ∙ any_kept c r (λ u. cut_refutes sets u t i.pre i.post r) (fraction_of sets t spec) (set_told sets t spec c r some allowed) (node_sets sets t.nodes)
    ∙ greatest_decides c r (fractions sets t spec) (allowed_some spec t.nodes c some allowed) (each_passes has_need (map (fraction_of sets t spec) (node_sets sets t.nodes)))
