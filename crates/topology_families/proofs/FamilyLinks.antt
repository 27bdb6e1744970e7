-- The sizes of families and their links.
use Rattle.std.proofs.{Common.{◌≡◌, ◌≢◌, ℕ, ◌+◌, ◌*◌, ◌/◌, ◌%◌, ◌<◌, ◌≤◌, Bool, true, ◌&&◌, ◌||◌, cond, eqb, leb, List, [], ◌∷◌, ◌++◌, map, length, get_or, inl, inr, refl, sym, ap, ◌∙◌, subst, arith, bit_xor}, lemmas.List.length-map}
use Rattle.std.proofs.{lemmas.List.Kept.AllPairs-filter, Math.Nat.{div-lt_iff_lt-mul, mod-eq-sub-div-mul, div-mul-le_self, mod-eq_of_lt, mod_self, mul-le-mul_left}}
use Rattle.std.proofs.lemmas.{Bool.{cases_lt, and_parts, or_cases, leb-true, eqb-true, eqb-false, not-true}, List.Elements.{All-filter, All-from_get_or, filter_passes}}
use Rattle.std.{proofs.lemmas.List.FromFn.{get_or-map-range_with_len, filter_of_map_range_with_len_more, length-range_with_len}, specs.{Int.Bits.xor_self, List.{All, filter, list_any, range_with_len}}}
use Rattle.list_laws.proofs.Tests.{few_kept}
use Rattle.text_lines.proofs.Distinct.{AreDistinct}
use Rattle.schedule.specs.Links.{IsLink, IsBelow}
use Rattle.topology_families.specs.declared.family_kind.FamilyKind.{FamilyKind, TheVariants.{Line, Ring, Cube, Shared, Torus, Mesh, Switch, Boxes}}
use Rattle.topology_families.specs.Family.{is_allowed, are_next, rows, columns, is_torus_link, is_family_link, pairs, family_links}

-- ---- sizes

pub record IsSize (size : ℕ) : Type 0 where
  pub some : 0 < size
  pub few : size ≤ 16

pub within : (low high size : ℕ) → (leb low size && leb size high) ≡ true → (low ≤ size) × (size ≤ high)
within low high size e = let (above, below) = and_parts (leb low size) (leb size high) e in (leb-true low size above, leb-true size high below)

-- what holds at each of three sizes
pub at_three : (P : ℕ → Type 0) (a b c size : ℕ) → P a → P b → P c → (eqb size a || eqb size b || eqb size c) ≡ true → P size
at_three P a b c size at_a at_b at_c e = grind (arith, or_cases, eqb-true)

is_size : (n : ℕ) → 0 < n → n ≤ 16 → IsSize n
is_size n some few = record { some = some; few = few }

cube_size : (size : ℕ) → is_allowed Cube size ≡ true → IsSize size
cube_size size e = grind (arith, or_cases, at_three, is_size, eqb-true)

pub allowed_size : (kind : FamilyKind) (size : ℕ) → is_allowed kind size ≡ true → IsSize size
allowed_size Ring size e = let (low, high) = within 3 16 size e in record { some = omega arith; few = high }
allowed_size Cube size e = cube_size size e
allowed_size Shared size e = let (low, high) = within 2 16 size e in record { some = omega arith; few = high }
allowed_size Torus size e = at_three IsSize 9 12 16 size (is_size 9 (omega arith) (omega arith)) (is_size 12 (omega arith) (omega arith)) (is_size 16 (omega arith) (omega arith)) e
allowed_size Mesh size e = subst IsSize (sym (eqb-true size 8 e)) (is_size 8 (omega arith) (omega arith))
allowed_size Switch size e = let (low, high) = within 2 16 size e in record { some = omega arith; few = high }
allowed_size Boxes size e = at_three IsSize 8 12 16 size (is_size 8 (omega arith) (omega arith)) (is_size 12 (omega arith) (omega arith)) (is_size 16 (omega arith) (omega arith)) e
allowed_size kind size e = let (low, high) = within 1 16 size e in record { some = omega arith; few = high }

-- a torus has three rows and columns at least, and its nodes fill them
pub record IsGrid (size : ℕ) : Type 0 where
  pub tall : 3 ≤ rows size
  pub wide : 3 ≤ columns size
  pub filled : size ≡ rows size * columns size

torus_grid : (size : ℕ) → is_allowed Torus size ≡ true → IsGrid size
torus_grid size e = at_three IsGrid 9 12 16 size (record { tall = omega arith; wide = omega arith; filled = refl }) (record { tall = omega arith; wide = omega arith; filled = refl }) (record { tall = omega arith; wide = omega arith; filled = refl }) e

-- ---- links

-- the links up to one pair more
pub links_more : (kind : FamilyKind) (size n : ℕ) (b : Bool) → is_family_link kind size (n / size, n % size) ≡ b → filter (is_family_link kind size) (map (λ k. (k / size, k % size)) (range_with_len 0 (n + 1))) ≡ filter (is_family_link kind size) (map (λ k. (k / size, k % size)) (range_with_len 0 n)) ++ cond b ((n / size, n % size) ∷ []) []
links_more kind size n b test =
    let before : List (ℕ × ℕ) = filter (is_family_link kind size) (map (λ k. (k / size, k % size)) (range_with_len 0 n)) in
    filter_of_map_range_with_len_more (is_family_link kind size) (λ k. (k / size, k % size)) 0 n n (omega arith) ∙ ap (λ t. before ++ cond t ((n / size, n % size) ∷ []) []) test

pub pair_at : (size i : ℕ) (d : ℕ × ℕ) → i < size * size → get_or (pairs size) i d ≡ (i / size, i % size)
pair_at size i d within = get_or-map-range_with_len (λ n. (n / size, n % size)) 0 (size * size) i i d within (omega arith)

pub length-pairs : (size : ℕ) → length (pairs size) ≡ size * size
length-pairs size = length-map (range_with_len 0 (size * size)) (λ n. (n / size, n % size)) ∙ length-range_with_len 0 (size * size)

pairs_below : (size : ℕ) → 0 < size → All (IsBelow size) (pairs size)
pairs_below size some = grind (arith, All-from_get_or, within, length-pairs, pair_at, div-lt_iff_lt-mul)

-- a place by its row and its column
place_is : (size i j : ℕ) → i / size ≡ j / size → i % size ≡ j % size → i ≡ j
place_is size i j row column = grind (arith, mod-eq-sub-div-mul, div-mul-le_self)

pairs_distinct : (size : ℕ) → 0 < size → AreDistinct (pairs size)
pairs_distinct size some i j d before h e = grind (arith, within, length-pairs, pair_at, place_is)

-- each of these links joins two different nodes

next_differs : (a b : ℕ) → (eqb b (a + 1) || eqb a (b + 1)) ≡ true → a ≢ b
next_differs a b t same = elim (or_cases (eqb b (a + 1)) (eqb a (b + 1)) t) [ inl h ↦ omega (arith, same, eqb-true b (a + 1) h) | inr h ↦ omega (arith, same, eqb-true a (b + 1) h) ]

round_differs : (size a : ℕ) → 3 ≤ size → a < size → a ≡ (a + 1) % size → ⊥
round_differs size a large below e = grind (arith, cases_lt, mod-eq_of_lt, mod_self)

ring_differs : (size a b : ℕ) → 3 ≤ size → a < size → b < size → are_next size a b ≡ true → a ≢ b
ring_differs size a b large low high t same = grind (arith, or_cases, round_differs, eqb-true)

cube_differs : (a b : ℕ) → list_any (λ digit. eqb (bit_xor a b) digit) (1 ∷ 2 ∷ 4 ∷ 8 ∷ []) ≡ true → a ≢ b
cube_differs a b t same = grind (arith, ap (λ x. bit_xor a x) (sym same) ∙ xor_self a, ap (λ x. list_any (λ digit. eqb x digit) (1 ∷ 2 ∷ 4 ∷ 8 ∷ [])) (ap (λ x. bit_xor a x) (sym same) ∙ xor_self a))

torus_differs : (tall wide a b : ℕ) → 3 ≤ tall → 3 ≤ wide → a < tall * wide → b < tall * wide → is_torus_link tall wide (a, b) ≡ true → a ≢ b
torus_differs tall wide a b rows_some columns_some low high t same = grind (arith, or_cases, and_parts, ring_differs, div-lt_iff_lt-mul)

differs : (kind : FamilyKind) (size a b : ℕ) → is_allowed kind size ≡ true → a < size → b < size → is_family_link kind size (a, b) ≡ true → a ≢ b
differs Line size a b ok low high t = next_differs a b t
differs Ring size a b ok low high t = let (large, few) = within 3 16 size ok in ring_differs size a b large low high t
differs Cube size a b ok low high t = cube_differs a b t
differs Torus size a b ok low high t = grind (arith, torus_grid, torus_differs)
differs Mesh size a b ok low high t = grind (arith, and_parts, eqb-false, not-true)
differs kind size a b ok low high t = eqb-false a b (not-true (eqb a b) t)

-- the links of a family
pub record FamilyLinks (size : ℕ) (links : List (ℕ × ℕ)) : Type 0 where
  pub each : All IsLink links
  pub below : All (IsBelow size) links
  pub distinct : AreDistinct links
  pub few : length links ≤ 256

pub family_links_are : (kind : FamilyKind) (size : ℕ) → is_allowed kind size ≡ true → FamilyLinks size (family_links kind size)
family_links_are kind size ok =
    let sizes = allowed_size kind size ok in
    let links : List (ℕ × ℕ) = family_links kind size in
    let below : All (IsBelow size) links = All-filter (is_family_link kind size) (IsBelow size) (pairs size) (pairs_below size sizes.some) in
    let passes : All (λ l. is_family_link kind size l ≡ true) links = filter_passes (is_family_link kind size) (pairs size) in
    let kept : length links ≤ length (pairs size) = few_kept (is_family_link kind size) (pairs size) in
    record {
      each = λ i d h. record { apart = differs kind size (get_or links i d).0 (get_or links i d).1 ok (below i d h).from (below i d h).to (passes i d h) };
      below = below;
      distinct = AllPairs-filter (λ a b. a ≢ b) (is_family_link kind size) (pairs size) (pairs_distinct size sizes.some);
      few = squares size sizes.few (length links) (omega (arith, length-pairs size));
    }
  where
    squares : (n : ℕ) → n ≤ 16 → (m : ℕ) → m ≤ n * n → m ≤ 256
    squares n few m h = omega (arith, mul-le-mul_left n few)
