-- What a fault leaves is a topology.
use Rattle.std.proofs.{lemmas.{Bool.{Decides.nat_tests, ltb-true, lt-ltb}, Grind.common_steps}, Common.{◌≡◌, ℕ, zero, suc, ◌<◌, ◌≤◌, Bool, true, List, [], ◌∷◌, length, refl, sym, subst, arith, ◌≢◌, filter, not, slice_set, All}}
use Rattle.std.{proofs.lemmas.List.{length-map, length-set, Kept.AllPairs-filter, Sums.{count_by-le-length, length-filter}, Elements.{All-filter, All-from_recursion, recursion_from_All}}, specs.List.AllByRecursion}
use Rattle.schedule.{specs.{Links.{GroupValue, TopologyValue, IsBelow, IsGroup, IsLink, IsTopology, has_link}, Judging.group_at}, proofs.First.{among_each, each_among, filter_among, map_among}}
use Rattle.link_faults.specs.Narrowed.{with_width, without_links, has_links, left_of, groups_after, narrowed}

pub left_each : (P : GroupValue → Type 0) (lost : GroupValue) → ((group : GroupValue) → P group → has_links (without_links lost group) ≡ true → P (without_links lost group))
    → (groups : List GroupValue) → AllByRecursion P groups → AllByRecursion P (left_of lost groups)
left_each P lost kept groups each = grind (arith, each_among, filter_among, map_among, among_each)

pub left_few : (lost : GroupValue) (groups : List GroupValue) → length (left_of lost groups) ≤ length groups
left_few lost groups = grind (arith, length-filter, count_by-le-length, length-map)

pub each_set : {X : Type 0} (P : X → Type 0) (xs : List X) (k : ℕ) (y : X) → P y → AllByRecursion P xs → AllByRecursion P (slice_set xs k y)
each_set P [] k y new each = tt
each_set P (x ∷ xs) zero y new each = (new, each.1)
each_set P (x ∷ xs) (suc k) y new each = (each.0, each_set P xs k y new each.1)

pub left_group : (lost group : GroupValue) → IsGroup group → has_links (without_links lost group) ≡ true → IsGroup (without_links lost group)
left_group lost group ok some =
    let p : ℕ × ℕ → Bool = λ link. not (has_link lost link) in
    record {
      positive = ok.positive;
      narrow = ok.narrow;
      some = ltb-true 0 (length (filter p group.links)) some;
      each = All-filter p IsLink group.links ok.each;
      distinct = AllPairs-filter (λ a b. a ≢ b) p group.links ok.distinct;
    }

pub narrower_group : (group : GroupValue) (w : ℕ) → IsGroup group → 0 < w → w < group.width → IsGroup (with_width w group)
narrower_group group w ok some less = record { positive = some; narrow = omega (arith, less, ok.narrow); some = ok.some; each = ok.each; distinct = ok.distinct }

pub narrowed_topology : (t : TopologyValue) (g w : ℕ) → IsTopology t → g < length t.groups → w < (group_at t g).width → IsTopology (narrowed t g w)
narrowed_topology t g zero ok low less =
    let lost = group_at t g in
    let nodes_of : GroupValue → Type 0 = λ group. All (IsBelow t.nodes) group.links in
    record {
      some = ok.some;
      few = ok.few;
      limit = omega (arith, ok.limit, left_few lost t.groups);
      groups = All-from_recursion IsGroup (left_of lost t.groups) (left_each IsGroup lost (λ group is some. left_group lost group is some) t.groups (recursion_from_All IsGroup t.groups ok.groups));
      nodes = All-from_recursion nodes_of (left_of lost t.groups)
          (left_each nodes_of lost (λ group is some. All-filter (λ link. not (has_link lost link)) (IsBelow t.nodes) group.links is) t.groups (recursion_from_All nodes_of t.groups ok.nodes));
    }
narrowed_topology t g (suc w) ok low less = grind (arith, nat_tests, common_steps, length-set, All-from_recursion, slice_set, each_set, narrower_group, recursion_from_All)

-- ---- in the words of the code

pub left_with : (lost group : GroupValue) (links : List (ℕ × ℕ)) (width : ℕ) → IsGroup group → links ≡ (without_links lost group).links → width ≡ group.width → 0 < length links → IsGroup (record { links = links; width = width })
left_with lost group links width ok are is some = grind (arith, left_group, lt-ltb)

pub groups_gone : (t : TopologyValue) (g w : ℕ) → w ≡ 0 → groups_after t g w ≡ left_of (group_at t g) t.groups
groups_gone t g zero is = refl
groups_gone t g (suc w) is = absurd (omega (arith, is))

pub groups_narrower : (t : TopologyValue) (g w : ℕ) → 0 < w → groups_after t g w ≡ slice_set t.groups g (with_width w (group_at t g))
groups_narrower t g zero some = absurd (omega (arith, some))
groups_narrower t g (suc w) some = refl

pub narrowed_with : (t : TopologyValue) (g w nodes : ℕ) (groups : List GroupValue) → IsTopology t → g < length t.groups → w < (group_at t g).width → nodes ≡ t.nodes → groups ≡ groups_after t g w → IsTopology (record { nodes = nodes; groups = groups })
narrowed_with t g w nodes groups ok low less of are =
    subst (λ n. IsTopology (record { nodes = n; groups = groups })) (sym of) (subst (λ gs. IsTopology (record { nodes = t.nodes; groups = gs })) (sym are) (narrowed_topology t g w ok low less))
