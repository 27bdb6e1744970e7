-- How many links a group has, and a topology, at most.
use Rattle.std.{proofs.{Common.{◌≡◌, ℕ, ◌<◌, ◌≤◌, true, length, get_or, subst, arith, All}, lemmas.{List.Elements.All-contains, Map.Made.{IsDistinct-from_AllPairs, length-le_from_is_member}}}, specs.{Bool.Decides, Cmp.IsEquivalence}}
use Rattle.schedule.specs.{Links.{TopologyValue, IsGroup, IsBelow, IsTopology, GroupValue, usable_links}, Placed.{same_pair, all_pairs}}
use Rattle.schedule.proofs.{First.Contains-from_Among, Placing.{pair_itself, pair_is, among_all}, Ordered.among_from_any}
use Rattle.send_encoding.proofs.Mapped as mapped

pair_decides : (a b : ℕ × ℕ) → Decides (same_pair a b) (a ≡ b)
pair_decides a b = (pair_is a b, λ e. subst (λ c. same_pair a c ≡ true) e (pair_itself a))

pairs_equivalent : IsEquivalence same_pair
pairs_equivalent = grind (arith, pair_itself, pair_is)

pub few_links : (nodes : ℕ) (group : GroupValue) → nodes ≤ 16 → IsGroup group → All (IsBelow nodes) group.links → length group.links ≤ 256
few_links nodes group few is below =
    length-le_from_is_member pairs_equivalent group.links (all_pairs 16 16) (IsDistinct-from_AllPairs pair_decides group.links is.distinct)
    (λ q h. let at = All-contains (IsBelow nodes) group.links q below (Contains-from_Among q group.links (among_from_any q group.links h)) in among_all 16 16 q (omega (arith, few, at.from)) (omega (arith, few, at.to)))

pub group_links : (t : TopologyValue) (k : ℕ) (d : GroupValue) → IsTopology t → k < length t.groups → length (get_or t.groups k d).links ≤ 256
group_links t k d is low = few_links t.nodes (get_or t.groups k d) is.few (is.groups k d low) (is.nodes k d low)

pub few_usable : (t : TopologyValue) → IsTopology t → length (usable_links t) ≤ 256
few_usable = mapped.few_usable
