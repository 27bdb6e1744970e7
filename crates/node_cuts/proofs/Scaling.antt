-- At each chunk count that a collective may have, what has to come into a set is what has to at the least one, so many times over.
use Rattle.std.proofs.Common.{◌≡◌, ℕ, zero, suc, ◌+◌, ◌*◌, ◌/◌, ◌%◌, ◌<◌, Bool, true, ◌&&◌, cond, refl, sym, ap, ◌∙◌, arith, ◌==◌, count_by, not, nat_le, filter}
use Rattle.std.proofs.{Math.Nat.{mul_comm, mul_assoc, mul-one, add-mul-mod_self_left, add-mul-div_left}, lemmas.{Bool.{and_parts, and_from, eqb-true, eq-eqb}, Nat.div-add-mod', List.Elements.recursion_from_All}}
use Rattle.std.specs.List.{list_any, range_with_len}
use Rattle.list_laws.proofs.{Tests.same_test, Ranges.any_at}
use Rattle.schedule.{specs.Placed.{PlacementValue, holds, placed, all_pairs}, proofs.{First.{among_each, any_found, any_among, filter_among}, Ordered.among_from_any, Placing.{IsBelow, all_below, holds-placed}, Spreading.sum_alike}}
use Rattle.collective_spec.specs.{declared.{kind.Kind.Kind, layout.Layout.Layout, spec.Spec.Spec}, Layouts.{stands, laid_out}, Patterns.in_copies, Kinds.allows}
use Rattle.collective_spec.specs.{declared.kind.Kind.TheVariants.{Broadcast, Gather, Allgather, Scatter, Alltoall, Reduce, Reducescatter, Allreduce, Custom}, Collectives.{kind_in, spec_instance}}
use Rattle.collective_spec.specs.declared.layout.Layout.TheVariants as layout
use Rattle.collective_spec.specs.declared.spec.Spec.TheVariants as spec
use Rattle.node_cuts.{specs.{Sides.NodeSet, Cuts.{stands_in, need_of}, Floors.least_count}, proofs.{Counting.counted, Within.numbers_below}}

-- ---- what stands in a set, by the test of a placement

abbrev pub some_stands : NodeSet → ℕ → (ℕ × ℕ → Bool) → ℕ → Bool
some_stands u nodes f chunk = list_any (λ n. f (chunk, n) && u n) (range_with_len 0 nodes)

pub stands_by : (u : NodeSet) (chunks nodes : ℕ) (f : ℕ × ℕ → Bool) (chunk : ℕ) → chunk < chunks → stands_in u (placed chunks nodes f) chunk ≡ some_stands u nodes f chunk
stands_by u chunks nodes f chunk below =
    let test : ℕ × ℕ → Bool = λ pair. pair.0 == chunk && u pair.1 in
    let row : ℕ → Bool = λ n. f (chunk, n) && u n in
    same_test (stands_in u (placed chunks nodes f) chunk) (some_stands u nodes f chunk)
    (λ stood.
    let found = any_found test (filter f (all_pairs chunks nodes)) stood in
    let pair : ℕ × ℕ = found.0 in
    let both = and_parts (pair.0 == chunk) (u pair.1) found.2 in
    let kept = filter_among f pair (all_pairs chunks nodes) found.1 in
    let inside : IsBelow chunks nodes pair = among_each (IsBelow chunks nodes) pair (all_pairs chunks nodes) (all_below chunks nodes) kept.0 in
    any_at row 0 nodes pair.1 (omega arith) (omega (arith, inside.1)) (and_from (f (chunk, pair.1)) (u pair.1) (ap (λ c. f (c, pair.1)) (sym (eqb-true pair.0 chunk both.0)) ∙ kept.1) both.1))
    (λ some.
    let found = any_found row (range_with_len 0 nodes) some in
    let n : ℕ = found.0 in
    let inside : n < nodes = among_each (λ k. k < nodes) n (range_with_len 0 nodes) (recursion_from_All (λ k. k < nodes) (range_with_len 0 nodes) (numbers_below nodes)) found.1 in
    let both = and_parts (f (chunk, n)) (u n) found.2 in
    any_among test (chunk, n) (filter f (all_pairs chunks nodes)) (among_from_any (chunk, n) (filter f (all_pairs chunks nodes)) (holds-placed chunks nodes f (chunk, n) below inside ∙ both.0))
    (and_from (chunk == chunk) (u n) (eq-eqb chunk chunk refl) both.1))

abbrev needs : NodeSet → ℕ → (ℕ × ℕ → Bool) → (ℕ × ℕ → Bool) → ℕ → Bool
needs u nodes f g chunk = some_stands u nodes g chunk && not (some_stands u nodes f chunk)

need_by : (u : NodeSet) (chunks nodes : ℕ) (f g : ℕ × ℕ → Bool) → need_of u (placed chunks nodes f) (placed chunks nodes g) ≡ count_by (needs u nodes f g) (range_with_len 0 chunks)
need_by u chunks nodes f g = grind (arith, sum_alike, stands_by)

-- ---- periods

counted_apart : (p : ℕ → Bool) (a n j k : ℕ) → a + n ≡ j → count_by p (range_with_len a (n + k)) ≡ count_by p (range_with_len a n) + count_by p (range_with_len j k)
counted_apart p a zero j k at =
    let here : a ≡ j = omega (arith, at) in
    let none : 0 + k ≡ k = omega arith in
    omega (arith, ap (λ v. count_by p (range_with_len a v)) none ∙ ap (λ v. count_by p (range_with_len v k)) here)
counted_apart p a (suc n) j k at =
    let up : suc n + k ≡ suc (n + k) = omega arith in
    ap (λ v. count_by p (range_with_len a v)) up
    ∙ omega (arith, counted p a (range_with_len (a + 1) (n + k)), counted p a (range_with_len (a + 1) n), counted_apart p (a + 1) n j k (omega (arith, at)))

counted_later : (p : ℕ → Bool) (period : ℕ) → ((k : ℕ) → p (k + period) ≡ p k) → (a j n : ℕ) → a + period ≡ j → count_by p (range_with_len j n) ≡ count_by p (range_with_len a n)
counted_later p period again a j zero at = refl
counted_later p period again a j (suc n) at =
    omega (arith, counted p j (range_with_len (j + 1) n), counted p a (range_with_len (a + 1) n), counted_later p period again (a + 1) (j + 1) n (omega (arith, at)), ap (λ b. cond {A = ℕ} b 1 0) (ap p (sym at) ∙ again a))

periods : (p : ℕ → Bool) (period : ℕ) → ((k : ℕ) → p (k + period) ≡ p k) → (m : ℕ) → count_by p (range_with_len 0 (m * period)) ≡ m * count_by p (range_with_len 0 period)
periods p period again zero = let none : 0 * period ≡ 0 = omega arith in omega (arith, ap (λ v. count_by p (range_with_len 0 v)) none)
periods p period again (suc m) =
    ap (λ v. count_by p (range_with_len 0 v)) (suc_mul m period)
    ∙ omega (arith, counted_apart p 0 period period (m * period) (omega arith), counted_later p period again 0 period (m * period) (omega arith), suc_mul m (count_by p (range_with_len 0 period)), periods p period again m)
  where
    suc_mul : (a b : ℕ) → suc a * b ≡ b + a * b
    suc_mul a b = omega arith

abbrev Repeats : (ℕ × ℕ → Bool) → ℕ → Type 0
Repeats f period = (chunk node : ℕ) → f (chunk + period, node) ≡ f (chunk, node)

scaled : (u : NodeSet) (nodes : ℕ) (f g : ℕ × ℕ → Bool) (period m size : ℕ) → Repeats f period → Repeats g period → size ≡ m * period → need_of u (placed size nodes f) (placed size nodes g) ≡ m * need_of u (placed period nodes f) (placed period nodes g)
scaled u nodes f g period m size first second is =
    let p : ℕ → Bool = needs u nodes f g in
    let again : (k : ℕ) → p (k + period) ≡ p k = λ k. λ i. list_any (λ n. second k n i && u n) (range_with_len 0 nodes) && not (list_any (λ n. first k n i && u n) (range_with_len 0 nodes)) in
    need_by u size nodes f g ∙ ap (λ v. count_by p (range_with_len 0 v)) is ∙ periods p period again m ∙ ap (λ v. m * v) (sym (need_by u period nodes f g))

-- ---- collectives

-- a layout repeats after as many chunks as there are nodes, and after each multiple
repeats_all : (nodes period : ℕ) → Repeats (stands layout.All nodes) period
repeats_all nodes period chunk node = refl

repeats_root : (root nodes period : ℕ) → Repeats (stands (layout.Root root) nodes) period
repeats_root root nodes period chunk node = refl

repeats_scattered : (nodes times : ℕ) → Repeats (stands layout.Scattered nodes) (nodes * times)
repeats_scattered nodes times chunk node = ap (λ v. node == v) (add-mul-mod_self_left chunk nodes times)

repeats_transpose : (nodes : ℕ) → 0 < nodes → Repeats (stands layout.Transpose nodes) (nodes * nodes)
repeats_transpose nodes some chunk node =
    let up : (chunk + nodes * nodes) / nodes ≡ chunk / nodes + nodes = add-mul-div_left chunk nodes some in
    let one : nodes ≡ nodes * 1 = sym (mul-one nodes) in
    ap (λ v. node == v % nodes) up ∙ ap (λ v. node == v) (ap (λ v. (chunk / nodes + v) % nodes) one ∙ add-mul-mod_self_left (chunk / nodes) nodes 1)

repeats_copies : (base : ℕ) (p : PlacementValue) → Repeats (in_copies base p) (base * 1)
repeats_copies base p chunk node = ap (λ v. holds p (v, node)) (add-mul-mod_self_left chunk base 1)

-- the least count so many times over, and what has to come in
pub record IsScaled (u : NodeSet) (spec : Spec) (nodes c : ℕ) : Type 0 where
  pub times : ℕ
  pub count : c ≡ times * least_count (kind_in spec) nodes
  pub needed : need_of u (spec_instance spec nodes c).pre (spec_instance spec nodes c).post ≡ times * need_of u (spec_instance spec nodes (least_count (kind_in spec) nodes)).pre (spec_instance spec nodes (least_count (kind_in spec) nodes)).post

once : (c : ℕ) → c ≡ c * 1
once c = sym (mul-one c)

turned : (nodes c : ℕ) → nodes * c ≡ c * (nodes * 1)
turned nodes c = mul_comm nodes c ∙ ap (λ v. c * v) (sym (mul-one nodes))

by_nodes : (nodes c : ℕ) (u : NodeSet) (first second : Layout) → Repeats (stands first nodes) (nodes * 1) → Repeats (stands second nodes) (nodes * 1)
    → need_of u (laid_out first (nodes * c) nodes) (laid_out second (nodes * c) nodes) ≡ c * need_of u (laid_out first (nodes * 1) nodes) (laid_out second (nodes * 1) nodes)
by_nodes nodes c u first second before after = scaled u nodes (stands first nodes) (stands second nodes) (nodes * 1) c (nodes * c) before after (turned nodes c)

by_chunks : (nodes c : ℕ) (u : NodeSet) (first second : Layout) → Repeats (stands first nodes) 1 → Repeats (stands second nodes) 1
    → need_of u (laid_out first c nodes) (laid_out second c nodes) ≡ c * need_of u (laid_out first 1 nodes) (laid_out second 1 nodes)
by_chunks nodes c u first second before after = scaled u nodes (stands first nodes) (stands second nodes) 1 c c before after (once c)

of_kind : (u : NodeSet) (kind : Kind) (root nodes c : ℕ) → 0 < nodes → allows kind nodes c ≡ true → IsScaled u (spec.Standard (record { kind = kind; root = root })) nodes c
of_kind u Broadcast root nodes c some allowed = record { times = c; count = once c; needed = by_chunks nodes c u (layout.Root root) layout.All (repeats_root root nodes 1) (repeats_all nodes 1) }
of_kind u Reduce root nodes c some allowed = record { times = c; count = once c; needed = by_chunks nodes c u (layout.Root root) layout.All (repeats_root root nodes 1) (repeats_all nodes 1) }
of_kind u Gather root nodes c some allowed = record { times = c; count = once c; needed = by_nodes nodes c u layout.Scattered (layout.Root root) (repeats_scattered nodes 1) (repeats_root root nodes (nodes * 1)) }
of_kind u Allgather root nodes c some allowed = record { times = c; count = once c; needed = by_nodes nodes c u layout.Scattered layout.All (repeats_scattered nodes 1) (repeats_all nodes (nodes * 1)) }
of_kind u Scatter root nodes c some allowed = record { times = c; count = once c; needed = by_nodes nodes c u (layout.Root root) layout.Scattered (repeats_root root nodes (nodes * 1)) (repeats_scattered nodes 1) }
of_kind u Reducescatter root nodes c some allowed = record { times = c; count = once c; needed = by_nodes nodes c u layout.Scattered layout.All (repeats_scattered nodes 1) (repeats_all nodes (nodes * 1)) }
of_kind u Allreduce root nodes c some allowed = record { times = c; count = once c; needed = by_nodes nodes c u layout.All layout.All (repeats_all nodes (nodes * 1)) (repeats_all nodes (nodes * 1)) }
of_kind u Custom root nodes c some allowed = record { times = c; count = once c; needed = scaled u nodes (stands layout.All nodes) (stands layout.All nodes) 0 c 0 (repeats_all nodes 0) (repeats_all nodes 0) (omega arith) }
of_kind u Alltoall root nodes c some allowed =
    let parts = and_parts (nat_le 1 c) (c % nodes == 0) allowed in
    let even : c % nodes ≡ 0 = eqb-true (c % nodes) 0 parts.1 in
    let m : ℕ = c / nodes in
    let whole : c ≡ m * nodes = omega (arith, div-add-mod' c nodes, even) in
    let size : nodes * c ≡ m * (nodes * nodes) = mul_comm nodes c ∙ ap (λ v. v * nodes) whole ∙ mul_assoc m nodes nodes in
    record {
      times = m;
      count = whole;
      needed = scaled u nodes (stands layout.Scattered nodes) (stands layout.Transpose nodes) (nodes * nodes) m (nodes * c) (repeats_scattered nodes nodes) (repeats_transpose nodes some) size;
    }

pub scales : (u : NodeSet) (spec : Spec) (nodes c : ℕ) → 0 < nodes → allows (kind_in spec) nodes c ≡ true → IsScaled u spec nodes c
scales u (spec.Standard collective) nodes c some allowed = of_kind u collective.kind collective.root nodes c some allowed
scales u (spec.Custom p) nodes c some allowed = record {
  times = c;
  count = once c;
  needed = scaled u nodes (in_copies p.base p.before) (in_copies p.base p.after) (p.base * 1) c (p.base * c) (repeats_copies p.base p.before) (repeats_copies p.base p.after) (turned p.base c);
}

-- so what has to come in at two counts is in the proportion of these
pub in_proportion : (u : NodeSet) (spec : Spec) (nodes c : ℕ) → 0 < nodes → allows (kind_in spec) nodes c ≡ true
    → need_of u (spec_instance spec nodes c).pre (spec_instance spec nodes c).post * least_count (kind_in spec) nodes ≡ need_of u (spec_instance spec nodes (least_count (kind_in spec) nodes)).pre (spec_instance spec nodes (least_count (kind_in spec) nodes)).post * c
in_proportion u spec nodes c some allowed =
    let least : ℕ = least_count (kind_in spec) nodes in
    let n : ℕ = need_of u (spec_instance spec nodes least).pre (spec_instance spec nodes least).post in
    let s : IsScaled u spec nodes c = scales u spec nodes c some allowed in
    ap (λ v. v * least) (s.needed ∙ mul_comm s.times n) ∙ mul_assoc n s.times least ∙ ap (λ v. n * v) (sym s.count)
