-- The listed sets, one after another.
use Rattle.std.proofs.{Common.{◌≡◌, ℕ, ◌+◌, ◌-◌, ◌≤◌, List, [], ◌∷◌, ◌++◌, map, append_assoc, refl, ap, sym, ◌∙◌, arith, ◌==◌, ◌||◌, not}, lemmas.{List.{map-append, FromFn.map-range_with_len_more}, Simd.map-map}, Math.Bool.not-not}
use Rattle.std.specs.List.{flat_map, range_with_len}
use Rattle.list_laws.proofs.Ranges.{flat_map-range_more}
use Rattle.node_cuts.specs.{declared.{side.Side.{Side, TheVariants.{One, Two, AllButOne, AllButTwo}}, sets.Sets.TheVariants.Listed}, Sides.{NodeSet, node_sets, small_sets}, inner.Listed.{complement, listed_sides, set_of, small_sides}}

pub ones_more : (n : ℕ) → map One (range_with_len 0 (n + 1)) ≡ map One (range_with_len 0 n) ++ One n ∷ []
ones_more n = map-range_with_len_more One 0 n n (omega arith)

pub twos_more : (before : List Side) (a b : ℕ) → a + 1 ≤ b → before ++ map (Two a) (range_with_len (a + 1) (b + 1 - (a + 1))) ≡ (before ++ map (Two a) (range_with_len (a + 1) (b - (a + 1)))) ++ Two a b ∷ []
twos_more before a b low =
    let len : ℕ = b - (a + 1) in
    let up : b + 1 - (a + 1) ≡ len + 1 = omega (arith, low) in
    let at : a + 1 + len ≡ b = omega (arith, low) in
    ap (λ n. before ++ map (Two a) (range_with_len (a + 1) n)) up ∙ ap (λ xs. before ++ xs) (map-range_with_len_more (Two a) (a + 1) len b at)
    ∙ sym (append_assoc before (map (Two a) (range_with_len (a + 1) len)) (Two a b ∷ []))

pub rows_more : (before : List Side) (f : ℕ → List Side) (n : ℕ) → before ++ flat_map f (range_with_len 0 (n + 1)) ≡ (before ++ flat_map f (range_with_len 0 n)) ++ f n
rows_more before f n =
    ap (λ xs. before ++ xs) (flat_map-range_more f 0 n n (omega arith)) ∙ sym (append_assoc before (flat_map f (range_with_len 0 n)) (f n))

-- ---- the sides as sets

map_flat : {X Y Z : Type 0} (f : Y → Z) (g : X → List Y) (xs : List X) → map f (flat_map g xs) ≡ flat_map (λ x. map f (g x)) xs
map_flat f g [] = refl
map_flat f g (x ∷ xs) = map-append f (g x) (flat_map g xs) ∙ ap (λ ys. map f (g x) ++ ys) (map_flat f g xs)

small_are : (nodes : ℕ) → map set_of (small_sides nodes) ≡ small_sets nodes
small_are nodes = grind (arith, map_flat, map-map, map-append)

-- none of the small sides is a complement
complement_is : (side : Side) → set_of (complement side) ≡ (λ n. not (set_of side n))
complement_is (One a) = refl
complement_is (Two a b) = refl
complement_is (AllButOne a) = λ i. λ n. sym (not-not (n == a)) i
complement_is (AllButTwo a b) = λ i. λ n. sym (not-not (n == a || n == b)) i

pub listed_are : (nodes : ℕ) → map set_of (listed_sides nodes) ≡ node_sets Listed nodes
listed_are nodes =
    let opposite : NodeSet → NodeSet = λ u. λ n. not (u n) in
    let others : map set_of (map complement (small_sides nodes)) ≡ map opposite (small_sets nodes) =
    map-map set_of complement (small_sides nodes) ∙ (λ i. map (λ side. complement_is side i) (small_sides nodes))
    ∙ sym (map-map opposite set_of (small_sides nodes)) ∙ ap (map opposite) (small_are nodes) in
    map-append set_of (small_sides nodes) (map complement (small_sides nodes))
    ∙ ap (λ us. us ++ map set_of (map complement (small_sides nodes))) (small_are nodes)
    ∙ ap (λ us. small_sets nodes ++ us) others
