-- The groups of families.
use Rattle.std.proofs.Common.{◌≡◌, ◌≢◌, ℕ, zero, suc, ◌+◌, ◌*◌, ◌/◌, ◌%◌, ◌<◌, ◌≤◌, Bool, true, false, ◌&&◌, if◌then◌else◌, eqb, not, List, [], ◌∷◌, ◌++◌, map, length, get_or, refl, sym, ap, ◌∙◌, subst, append_assoc, arith, rules}
use Rattle.std.proofs.lemmas.{Bool.{eq-eqb, ne_eqb}, Nat.{div-mul-add, mod-mul-add, mul-le}, List.{length-append, length-map, Elements.{All-nil, All-cons, All-append, All-map, All-filter, All-weaker, All-from_get_or}}}
use Rattle.std.{proofs.lemmas.List.{FromFn.{get_or-range_with_len, map-range_with_len_more, length-map-range_with_len, length-range_with_len}, Kept.AllPairs-filter}, specs.List.{All, filter, range_with_len}}
use Rattle.list_laws.proofs.Tests.{few_kept}
use Rattle.schedule.specs.{Links.{GroupValue, IsLink, IsBelow, IsGroup}}
use Rattle.topology_text.proofs.Groups.{Groups}
use Rattle.topology_families.specs.declared.family_kind.FamilyKind.{FamilyKind, TheVariants.{Complete, Shared, Mesh, Switch, Boxes}}
use Rattle.topology_families.specs.Family.{is_allowed, is_family_link, pairs, family_links, one_wide, single, mesh_group, is_inside, port, cable, family_groups}
use Rattle.topology_families.proofs.FamilyLinks.{at_three, within, length-pairs, pair_at, FamilyLinks, family_links_are}

-- ---- links that share a group

kept_both : (p q : ℕ × ℕ → Bool) (links : List (ℕ × ℕ)) (i : ℕ) (d : ℕ × ℕ) → i < length links → p (get_or links i d) ≡ true → q (get_or links i d) ≡ true → 0 < length (filter q (filter p links))
kept_both p q [] i d within passes too = absurd (omega arith)
kept_both p q (l ∷ links) zero d within passes too = rw passes (rw too (omega arith))
kept_both p q (l ∷ links) (suc i) d within passes too = grind (arith, kept_both p q links i d)

-- a link of the family that passes a test
some_pass : (kind : FamilyKind) (size a b : ℕ) (q : ℕ × ℕ → Bool) → a < size → b < size → is_family_link kind size (a, b) ≡ true → q (a, b) ≡ true → 0 < length (filter q (family_links kind size))
some_pass kind size a b q low high joined passes =
    let place : a * size + b < size * size = place_below size a b low high in
    let here : get_or (pairs size) (a * size + b) (0, 0) ≡ (a, b) = pair_at size (a * size + b) (0, 0) place ∙ ap (λ x. (x, (a * size + b) % size)) (div-mul-add a size b high) ∙ ap (λ y. (a, y)) (mod-mul-add a size b high) in
    kept_both (is_family_link kind size) q (pairs size) (a * size + b) (0, 0) (omega (arith, length-pairs size, place)) (ap (is_family_link kind size) here ∙ joined) (ap q here ∙ passes)
  where
    place_below : (n x y : ℕ) → x < n → y < n → x * n + y < n * n
    place_below n x y low high =
        let whole : (x + 1) * n ≤ n * n = mul-le (x + 1) n n n (omega arith) (omega arith) in
        omega (arith, whole)

-- some of the links
part_of : (size : ℕ) (links : List (ℕ × ℕ)) (p : ℕ × ℕ → Bool) → FamilyLinks size links → FamilyLinks size (filter p links)
part_of size links p ok = record {
  each = All-filter p IsLink links ok.each;
  below = All-filter p (IsBelow size) links ok.below;
  distinct = AllPairs-filter (λ a b. a ≢ b) p links ok.distinct;
  few = omega (arith, few_kept p links, ok.few);
}

-- links on one width
wide_is_group : (size : ℕ) (links : List (ℕ × ℕ)) → FamilyLinks size links → 0 < length links → IsGroup (one_wide links)
wide_is_group size links ok some = record { positive = omega arith; narrow = omega arith; some = some; each = ok.each; distinct = ok.distinct }

part_is_group : (size : ℕ) (links : List (ℕ × ℕ)) (p : ℕ × ℕ → Bool) → FamilyLinks size links → 0 < length (filter p links) → IsGroup (one_wide (filter p links))
part_is_group size links p ok some = wide_is_group size (filter p links) (part_of size links p ok) some

pub shared_is_group : (size : ℕ) → is_allowed Shared size ≡ true → IsGroup (one_wide (family_links Shared size))
shared_is_group size ok =
    let (large, few) = within 2 16 size ok in
    let some = some_pass Shared size 0 1 (λ l. true) (omega arith) (omega arith) refl refl in
    wide_is_group size (family_links Shared size) (family_links_are Shared size ok) (omega (arith, some, few_kept (λ l. true) (family_links Shared size)))

-- ---- groups of one link

alone_is_group : (link : ℕ × ℕ) (width : ℕ) → 0 < width → width ≤ 16 → IsLink link → IsGroup (record { links = link ∷ []; width = width })
alone_is_group link width some few apart = grind (arith, All-cons, All-nil)

-- of width 1, and in a mesh of its own width
pub own_is_group : (mesh : Bool) (link : ℕ × ℕ) → IsLink link → IsGroup ((if mesh then mesh_group else single) link)
own_is_group mesh link apart = search (rules, alone_is_group)

-- ---- ports

out_some : (size node : ℕ) → 2 ≤ size → node < size → 0 < length (filter (λ link. eqb link.0 node) (family_links Switch size))
out_some size zero large low = some_pass Switch size 0 1 (λ link. eqb link.0 0) (omega arith) (omega arith) refl refl
out_some size (suc node) large low = some_pass Switch size (suc node) 0 (λ link. eqb link.0 (suc node)) low (omega arith) (ap not (ne_eqb (suc node) 0 (λ e. omega arith))) (eq-eqb (suc node) (suc node) refl)

in_some : (size node : ℕ) → 2 ≤ size → node < size → 0 < length (filter (λ link. eqb link.1 node) (family_links Switch size))
in_some size zero large low = some_pass Switch size 1 0 (λ link. eqb link.1 0) (omega arith) (omega arith) refl refl
in_some size (suc node) large low = some_pass Switch size 0 (suc node) (λ link. eqb link.1 (suc node)) (omega arith) low (ap not (ne_eqb 0 (suc node) (λ e. omega arith))) (eq-eqb (suc node) (suc node) refl)

pub ports_are_groups : (size : ℕ) → is_allowed Switch size ≡ true → (out : Bool) (node : ℕ) → node < size → IsGroup (port (λ link. if out then link.0 else link.1) (family_links Switch size) node)
ports_are_groups size ok true node low = part_is_group size (family_links Switch size) (λ link. eqb link.0 node) (family_links_are Switch size ok) (out_some size node (within 2 16 size ok).0 low)
ports_are_groups size ok false node low = part_is_group size (family_links Switch size) (λ link. eqb link.1 node) (family_links_are Switch size ok) (in_some size node (within 2 16 size ok).0 low)

-- a loop over the nodes, in which each adds one group
pub nodes_more : (group : ℕ → GroupValue) (initial before after : List GroupValue) (node : ℕ) (its : GroupValue) → before ≡ initial ++ map group (range_with_len 0 node) → its ≡ group node → after ≡ before ++ its ∷ [] → after ≡ initial ++ map group (range_with_len 0 (node + 1))
nodes_more group initial before after node its so_far is pushed = grind (arith, append_assoc, map-range_with_len_more)

-- what holds at each node
at_nodes : (P : ℕ → Type 0) (size : ℕ) → ((node : ℕ) → node < size → P node) → All P (range_with_len 0 size)
at_nodes P size at = grind (arith, All-from_get_or, length-range_with_len, get_or-range_with_len)

-- ---- cables

pub cables_allowed : (size : ℕ) → is_allowed Boxes size ≡ true → is_allowed Complete (size / 4) ≡ true
cables_allowed size ok = at_three (λ s. is_allowed Complete (s / 4) ≡ true) 8 12 16 size refl refl refl ok

-- the first nodes of two boxes are joined by their cable
cable_some : (size : ℕ) (boxes : ℕ × ℕ) → IsLink boxes → IsBelow (size / 4) boxes → 0 < length (filter (λ link. eqb (link.0 / 4) boxes.0 && eqb (link.1 / 4) boxes.1) (family_links Boxes size))
cable_some size boxes link below =
    let a = boxes.0 in
    let b = boxes.1 in
    let low = below.from in
    let high = below.to in
    let from : a * 4 / 4 ≡ a = omega arith in
    let to : b * 4 / 4 ≡ b = omega arith in
    some_pass Boxes size (a * 4) (b * 4) (λ link. eqb (link.0 / 4) a && eqb (link.1 / 4) b) (omega (arith, low)) (omega (arith, high)) (ap not (ne_eqb (a * 4) (b * 4) (λ e. link.apart (omega (arith, e))))) (rw (from, to) (rw (eq-eqb a a refl, eq-eqb b b refl) refl))

pub cables_are : (size : ℕ) → is_allowed Boxes size ≡ true → All (λ boxes. IsGroup (cable (family_links Boxes size) boxes)) (family_links Complete (size / 4))
cables_are size ok =
    let few = family_links_are Complete (size / 4) (cables_allowed size ok) in
    λ i d h. part_is_group size (family_links Boxes size) (λ link. eqb (link.0 / 4) (get_or (family_links Complete (size / 4)) i d).0 && eqb (link.1 / 4) (get_or (family_links Complete (size / 4)) i d).1) (family_links_are Boxes size ok) (cable_some size (get_or (family_links Complete (size / 4)) i d) (few.each i d h) (few.below i d h))

-- ---- the groups of a family

-- a group of its own for each link
alones : (size : ℕ) (links : List (ℕ × ℕ)) (alone : ℕ × ℕ → GroupValue) → FamilyLinks size links → ((link : ℕ × ℕ) → (alone link).links ≡ link ∷ []) → ((link : ℕ × ℕ) → IsLink link → IsGroup (alone link)) → Groups size (map alone links)
alones size links alone ok own is_group = record {
  few = omega (arith, length-map links alone, ok.few);
  each = All-map IsGroup alone links (All-weaker IsLink (λ l. IsGroup (alone l)) is_group links ok.each);
  below = All-map (λ g. All (IsBelow size) g.links) alone links (All-weaker (IsBelow size) (λ l. All (IsBelow size) (alone l).links) (λ l h. subst (All (IsBelow size)) (sym (own l)) (All-cons (IsBelow size) l [] h (All-nil (IsBelow size)))) links ok.below);
}

singles : (size : ℕ) (links : List (ℕ × ℕ)) → FamilyLinks size links → Groups size (map single links)
singles size links ok = alones size links single ok (λ l. refl) (own_is_group false)

-- groups, and others behind them
both_are : (size : ℕ) (a b : List GroupValue) → length (a ++ b) ≤ 256 → Groups size a → Groups size b → Groups size (a ++ b)
both_are size a b few one two = record { few = few; each = All-append IsGroup a b one.each two.each; below = All-append (λ g. All (IsBelow size) g.links) a b one.below two.below }

-- groups of some of the links
parts_are : {X : Type 0} (size : ℕ) (links : List (ℕ × ℕ)) (passes : X → ℕ × ℕ → Bool) (xs : List X) → length xs ≤ 256 → FamilyLinks size links → All (λ x. IsGroup (one_wide (filter (passes x) links))) xs → Groups size (map (λ x. one_wide (filter (passes x) links)) xs)
parts_are size links passes xs few ok each = record {
  few = omega (arith, few, length-map xs (λ x. one_wide (filter (passes x) links)));
  each = All-map IsGroup (λ x. one_wide (filter (passes x) links)) xs each;
  below = All-map (λ g. All (IsBelow size) g.links) (λ x. one_wide (filter (passes x) links)) xs (λ i d h. All-filter (passes (get_or xs i d)) (IsBelow size) links ok.below);
}

ports_are : (size : ℕ) → is_allowed Switch size ≡ true → Groups size (family_groups Switch size)
ports_are size ok =
    let (large, small) = within 2 16 size ok in
    let links = family_links Switch size in
    let nodes = range_with_len 0 size in
    let are = family_links_are Switch size ok in
    let outs = map (port (λ link. link.0) links) nodes in
    let ins = map (port (λ link. link.1) links) nodes in
    let few : length nodes ≤ 256 = omega (arith, length-range_with_len 0 size, small) in
    both_are size outs ins (omega (arith, length-append outs ins, length-map-range_with_len (port (λ link. link.0) links) 0 size, length-map-range_with_len (port (λ link. link.1) links) 0 size, small))
    (parts_are size links (λ node link. eqb link.0 node) nodes few are (at_nodes (λ node. IsGroup (port (λ link. link.0) links node)) size (ports_are_groups size ok true)))
    (parts_are size links (λ node link. eqb link.1 node) nodes few are (at_nodes (λ node. IsGroup (port (λ link. link.1) links node)) size (ports_are_groups size ok false)))

few_boxes : (size : ℕ) → is_allowed Boxes size ≡ true → length (family_groups Boxes size) ≤ 256
few_boxes size ok = at_three (λ s. length (family_groups Boxes s) ≤ 256) 8 12 16 size (omega arith) (omega arith) (omega arith) ok

boxes_are : (size : ℕ) → is_allowed Boxes size ≡ true → Groups size (family_groups Boxes size)
boxes_are size ok =
    let links = family_links Boxes size in
    let are = family_links_are Boxes size ok in
    let boxes = family_links Complete (size / 4) in
    both_are size (map single (filter is_inside links)) (map (cable links) boxes) (few_boxes size ok) (singles size (filter is_inside links) (part_of size links is_inside are))
    (parts_are size links (λ ends link. eqb (link.0 / 4) ends.0 && eqb (link.1 / 4) ends.1) boxes (family_links_are Complete (size / 4) (cables_allowed size ok)).few are (cables_are size ok))

pub family_groups_are : (kind : FamilyKind) (size : ℕ) → is_allowed kind size ≡ true → Groups size (family_groups kind size)
family_groups_are Mesh size ok = alones size (family_links Mesh size) mesh_group (family_links_are Mesh size ok) (λ l. refl) (own_is_group true)
family_groups_are Switch size ok = ports_are size ok
family_groups_are Boxes size ok = boxes_are size ok
family_groups_are Shared size ok = grind (arith, family_links_are, All-cons, shared_is_group, All-nil)
family_groups_are kind size ok = singles size (family_links kind size) (family_links_are kind size ok)

-- ---- what the groups are made of

module _ (kind : FamilyKind) (size : ℕ) (links : List (ℕ × ℕ)) (made : links ≡ family_links kind size) (ok : is_allowed kind size ≡ true) where
  pub each_made : All IsLink links
  each_made = rw made (family_links_are kind size ok).each

  -- what holds of the links of the one kind that this is
  at_links : (P : List (ℕ × ℕ) → Type 0) (its : FamilyKind) → kind ≡ its → (is_allowed its size ≡ true → P (family_links its size)) → P links
  at_links P its is holds = subst P (sym (made ∙ ap (λ k. family_links k size) is)) (holds (ap (λ k. is_allowed k size) (sym is) ∙ ok))

  pub shared_made : kind ≡ Shared → IsGroup (one_wide links)
  shared_made is = at_links (λ its. IsGroup (one_wide its)) Shared is (shared_is_group size)

  pub ports_made : kind ≡ Switch → (out : Bool) (node : ℕ) → node < size → IsGroup (port (λ link. if out then link.0 else link.1) links node)
  ports_made is = at_links (λ its. (out : Bool) (node : ℕ) → node < size → IsGroup (port (λ link. if out then link.0 else link.1) its node)) Switch is (ports_are_groups size)

  pub cables_made : kind ≡ Boxes → (cables : List (ℕ × ℕ)) → cables ≡ family_links Complete (size / 4) → All (λ boxes. IsGroup (cable links boxes)) cables
  cables_made is cables so = rw so (at_links (λ its. All (λ boxes. IsGroup (cable its boxes)) (family_links Complete (size / 4))) Boxes is (cables_are size))
