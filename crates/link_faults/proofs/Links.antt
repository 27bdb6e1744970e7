-- What links and groups are left after a fault, and what they carry.
use Rattle.std.proofs.Common.{◌≡◌, ℕ, zero, suc, ◌≤◌, ◌*◌, Bool, true, false, ◌||◌, ◌&&◌, eqb, cond, List, [], ◌∷◌, length, get_or, map, refl, sym, ap, ◌∙◌, ⊎_elim, arith, not, slice_set}
use Rattle.std.{proofs.{lemmas.{Bool.{false≢true, and_parts, cases_Bool, lt-ltb, not-true}, List.Sums.sum_by-cons, Map.Views.any-filter_same}, Math.Bool.and-false}, specs.List.{list_any, AllByRecursion}}
use Rattle.schedule.specs.{declared.hop.Hop.Hop, Links.{GroupValue, has_link}, Placed.same_pair, Sends.link_of, Fitting.load}
use Rattle.schedule.proofs.{First.{among_each, among_kept, among_map, any_among, any_found, each_among, filter_among, map_among}, Placing.pair_is}
use Rattle.link_faults.specs.Narrowed.{without_links, has_links, left_of}

-- a link is left in a group exactly where it was there and is not gone
pub left_link : (lost group : GroupValue) (link : ℕ × ℕ) → has_link (without_links lost group) link ≡ (not (has_link lost link) && has_link group link)
left_link lost group link = any-filter_same (same_pair link) (λ l. not (has_link lost l)) (not (has_link lost link)) (λ l same. ap (λ x. not (has_link lost x)) (sym (pair_is link l same))) group.links

-- a link that is left was there
pub was_there : (lost group : GroupValue) (link : ℕ × ℕ) → has_link (without_links lost group) link ≡ true → has_link group link ≡ true
was_there lost group link h = (and_parts (not (has_link lost link)) (has_link group link) (sym (left_link lost group link) ∙ h)).1

not_gone : (lost group : GroupValue) (link : ℕ × ℕ) → has_link (without_links lost group) link ≡ true → has_link lost link ≡ false
not_gone lost group link h = not-true (has_link lost link) (and_parts (not (has_link lost link)) (has_link group link) (sym (left_link lost group link) ∙ h)).0

-- what is usable was usable, and is not gone
pub left_usable : (lost : GroupValue) (groups : List GroupValue) (link : ℕ × ℕ) → list_any (λ group. has_link group link) (left_of lost groups) ≡ true
    → (list_any (λ group. has_link group link) groups ≡ true) × (has_link lost link ≡ false)
left_usable lost groups link h = grind (arith, any_found, map_among, filter_among, any_among, was_there, not_gone)

-- sends that use no link that is gone load a group as they load what is left of it
pub same_load : (lost group : GroupValue) (step : ℕ) (sends : List Hop) → AllByRecursion (λ h. has_link lost (link_of h) ≡ false) sends → load (without_links lost group) step sends ≡ load group step sends
same_load lost group step [] none = refl
same_load lost group step (h ∷ sends) none =
    let here : has_link (without_links lost group) (link_of h) ≡ has_link group (link_of h) = left_link lost group (link_of h) ∙ ap (λ b. not b && has_link group (link_of h)) none.0 in
    let rest : load (without_links lost group) step sends ≡ load group step sends = same_load lost group step sends none.1 in
    omega (
      arith,
      rest,
      ap (λ b. cond {A = ℕ} (eqb h.step step && b) 1 0) here,
      sum_by-cons (λ x. cond (eqb x.step step && has_link (without_links lost group) (link_of x)) 1 0) h sends,
      sum_by-cons (λ x. cond (eqb x.step step && has_link group (link_of x)) 1 0) h sends,
    )

-- a group without links carries nothing
pub no_load : (group : GroupValue) (step : ℕ) (sends : List Hop) → has_links group ≡ false → load group step sends ≡ 0
no_load group step [] none = refl
no_load group step (h ∷ sends) none =
    let empty : (eqb h.step step && has_link group (link_of h)) ≡ false = ap (λ b. eqb h.step step && b) (without_links group.links none) ∙ and-false (eqb h.step step) in
    omega (arith, no_load group step sends none, ap (λ b. cond {A = ℕ} b 1 0) empty, sum_by-cons (λ x. cond (eqb x.step step && has_link group (link_of x)) 1 0) h sends)
  where
    without_links : (links : List (ℕ × ℕ)) → has_links (record { links = links; width = group.width }) ≡ false → list_any (same_pair (link_of h)) links ≡ false
    without_links [] e = refl
    without_links (l ∷ links) e = absurd (false≢true (sym e ∙ lt-ltb 0 (length (l ∷ links)) (omega arith)))

-- where what is left of each group carries no more than its width in so many rounds, so does the group
pub left_within : (lost : GroupValue) (step rounds : ℕ) (sends : List Hop) (groups : List GroupValue) → AllByRecursion (λ h. has_link lost (link_of h) ≡ false) sends
    → AllByRecursion (λ group. load group step sends ≤ group.width * rounds) (left_of lost groups) → AllByRecursion (λ group. load group step sends ≤ group.width * rounds) groups
left_within lost step rounds sends groups none within = each_among (λ group. load group step sends ≤ group.width * rounds) groups (λ group there.
    let left : GroupValue = without_links lost group in
    let same : load left step sends ≡ load group step sends = same_load lost group step sends none in
    ⊎_elim
    (λ (kept : has_links left ≡ true).
    let among = among_kept has_links left (map (without_links lost) groups) (among_map (without_links lost) group groups there) kept in
    let here : load left step sends ≤ left.width * rounds = among_each (λ group. load group step sends ≤ group.width * rounds) left (left_of lost groups) within among in
    omega (arith, here, same))
    (λ (dropped : has_links left ≡ false). omega (arith, no_load left step sends dropped, same))
    (cases_Bool (has_links left)))

-- ---- a group with another width

pub set_any : {X : Type 0} (p : X → Bool) (xs : List X) (k : ℕ) (d y : X) → p y ≡ p (get_or xs k d) → list_any p (slice_set xs k y) ≡ list_any p xs
set_any p [] k d y same = refl
set_any p (x ∷ xs) zero d y same = ap (λ b. b || list_any p xs) same
set_any p (x ∷ xs) (suc k) d y same = ap (λ b. p x || b) (set_any p xs k d y same)

pub set_each : {X : Type 0} (P : X → Type 0) (xs : List X) (k : ℕ) (d y : X) → (P y → P (get_or xs k d)) → AllByRecursion P (slice_set xs k y) → AllByRecursion P xs
set_each P [] k d y back each = tt
set_each P (x ∷ xs) zero d y back each = (back each.0, each.1)
set_each P (x ∷ xs) (suc k) d y back each = (each.0, set_each P xs k d y back each.1)
