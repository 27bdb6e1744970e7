-- Families are topologies.
use Rattle.std.proofs.{Common.{◌≡◌, ℕ, ◌+◌, ◌<◌, true, List, [], ◌∷◌, ◌++◌, map, None, Some, refl, ap, ◌∙◌, subst, arith}, lemmas.List.{length-map, Elements.{All-get_or, All-from_get_or}}}
use Rattle.std.proofs.lemmas.{List.{FromFn.{get_or-range_with_len, get_or-map-range_with_len, map-range_with_len_more, length-range_with_len}, Sums.AllPass-from_list_all}, Fmt.decimal_injective}
use Rattle.std.specs.{Fmt.digits, List.{list_all, range_with_len}}
use Rattle.schedule.specs.Links.{IsTopology}
use Rattle.topology_text.{specs.{Names.{is_name, name_of, AreNames}, Value.IsNamed}, proofs.Front.name_of_name}
use Rattle.topology_families.{specs.{declared.family_kind.FamilyKind.FamilyKind, Family.{is_allowed, family_groups, numbered_name}}, proofs.{FamilyLinks.{IsSize, allowed_size}, FamilyGroups.family_groups_are}}

-- ---- names

names_pass : list_all (λ n. is_name (numbered_name n)) (range_with_len 0 16) ≡ true
unfolding digits
names_pass = refl

pub numbered_is_name : (node : ℕ) → node < 16 → is_name (numbered_name node) ≡ true
numbered_is_name node small =
    let P : ℕ → Type 0 = λ n. is_name (numbered_name n) ≡ true in
    let all = AllPass-from_list_all (λ n. is_name (numbered_name n)) (range_with_len 0 16) names_pass in
    subst P (get_or-range_with_len 0 16 node 0 small ∙ omega arith) (All-get_or P (range_with_len 0 16) node 0 (omega (arith, length-range_with_len 0 16)) all)

pub numbered_is_some : (node : ℕ) (bytes : List ℕ) → node < 16 → bytes ≡ numbered_name node → name_of bytes ≡ Some (numbered_name node)
numbered_is_some node bytes small e = ap name_of e ∙ name_of_name (numbered_name node) (numbered_is_name node small)

pub numbered_apart : (a b : ℕ) → a < 16 → b < 16 → numbered_name a ≡ numbered_name b → a ≡ b
numbered_apart a b low high e = grind (arith, decimal_injective)

names_named : (size : ℕ) → IsSize size → AreNames (map numbered_name (range_with_len 0 size))
names_named size ok = grind (arith, length-map, length-range_with_len, get_or-map-range_with_len, All-from_get_or, numbered_is_name, numbered_apart)

pub names_more : (n : ℕ) → map numbered_name (range_with_len 0 (n + 1)) ≡ map numbered_name (range_with_len 0 n) ++ numbered_name n ∷ []
names_more n = map-range_with_len_more numbered_name 0 n n (omega arith)

-- ---- the family

pub family_topology : (kind : FamilyKind) (size : ℕ) → is_allowed kind size ≡ true → IsTopology (record { nodes = size; groups = family_groups kind size })
family_topology kind size ok = grind (arith, allowed_size, family_groups_are)

pub family_named : (kind : FamilyKind) (size : ℕ) → is_allowed kind size ≡ true → IsNamed (record { names = map numbered_name (range_with_len 0 size); topology = record { nodes = size; groups = family_groups kind size }; custom = None })
family_named kind size ok = grind (arith, names_named, allowed_size, family_topology, length-map, length-range_with_len)
