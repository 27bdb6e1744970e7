-- How many chunks have to come into a set of nodes, and how many can in each round; where the first are too many, no schedule of so many rounds solves. This project's own.
use Rattle.std.specs.Prelude.{◌==◌, ◌&&◌, ℕ, zero, suc, ◌*◌, not, nat_lt, Bool, if◌then◌else◌, List, [], ◌∷◌, ◌++◌, length, filter, find, map, reverse, Option, None, Some, count_by}
use Rattle.std.specs.{List.{list_any, range_with_len, sum_by}, Option.option_map_or}
use Rattle.schedule.specs.{Links.{TopologyValue, has_link}, Placed.PlacementValue, Judging.group_at}
use Rattle.node_cuts.specs.{declared.sets.Sets.{Sets, TheVariants.{Nothing, Listed, All}}, Sides.{NodeSet, node_sets, mask_of}}

-- ---- what has to come in

-- some node of the set has the chunk
abbrev pub stands_in : NodeSet → PlacementValue → ℕ → Bool
stands_in u p chunk = list_any (λ pair. pair.0 == chunk && u pair.1) p.pairs

-- the chunk has to be in the set after, and is not before
abbrev pub is_needed : NodeSet → PlacementValue → PlacementValue → ℕ → Bool
is_needed u pre post chunk = stands_in u post chunk && not (stands_in u pre chunk)

-- how many chunks are
abbrev pub need_of : NodeSet → PlacementValue → PlacementValue → ℕ
need_of u pre post = count_by (is_needed u pre post) (range_with_len 0 post.chunks)

-- ---- what can come in

-- the link leads from outside the set into it
abbrev pub enters : NodeSet → ℕ × ℕ → Bool
enters u link = not (u link.0) && u link.1

-- the link stands in one of these groups
abbrev pub is_among : TopologyValue → List ℕ → ℕ × ℕ → Bool
is_among t groups link = list_any (λ group. has_link (group_at t group) link) groups

-- the group has a link into the set that stands in none of these groups
abbrev pub opens : NodeSet → TopologyValue → List ℕ → ℕ → Bool
opens u t groups group = list_any (λ link. enters u link && not (is_among t groups link)) (group_at t group).links

-- beside groups that were taken, each of these in turn that has a link into the set that stands in no group taken before
abbrev pub taken_along : NodeSet → TopologyValue → List ℕ → List ℕ → List ℕ
taken_along u t taken [] = taken
taken_along u t taken (group ∷ others) = taken_along u t (taken ++ (if opens u t taken group then group ∷ [] else [])) others

abbrev pub all_groups : TopologyValue → List ℕ
all_groups t = range_with_len 0 (length t.groups)

-- the groups that cover all links into the set, in the topology's order
abbrev pub cover : NodeSet → TopologyValue → List ℕ
cover u t = taken_along u t [] (all_groups t)

-- the same in the reverse of that order
abbrev pub cover_back : NodeSet → TopologyValue → List ℕ
cover_back u t = reverse (taken_along u t [] (reverse (all_groups t)))

-- how many links into the set the group has that stand in none of these groups
abbrev pub opened : NodeSet → TopologyValue → List ℕ → ℕ → ℕ
opened u t groups group = count_by (λ link. enters u link && not (is_among t groups link)) (group_at t group).links

-- the first group has more of them for its width, by cross products
abbrev pub opens_more : NodeSet → TopologyValue → List ℕ → ℕ → ℕ → Bool
opens_more u t groups a b = nat_lt (opened u t groups b * (group_at t a).width) (opened u t groups a * (group_at t b).width)

-- the better of the best group so far and the next, which has to have some; of two that are as good the best so far
abbrev pub better : NodeSet → TopologyValue → List ℕ → Option ℕ → ℕ → Option ℕ
better u t groups None next = if opens u t groups next then Some next else None
better u t groups (Some best) next = if opens_more u t groups next best then Some next else Some best

-- the best of the best so far and these
abbrev pub best_of : NodeSet → TopologyValue → List ℕ → Option ℕ → List ℕ → Option ℕ
best_of u t groups best [] = best
best_of u t groups best (next ∷ others) = best_of u t groups (better u t groups best next) others

-- these groups, ascending
abbrev pub ascending : TopologyValue → List ℕ → List ℕ
ascending t groups = filter (λ group. list_any (λ other. other == group) groups) (all_groups t)

-- beside groups that were taken, the best group again and again, until none has a link into the set that stands in none taken; after as many turns as there are groups all are taken
abbrev pub best_taken : NodeSet → TopologyValue → ℕ → List ℕ → List ℕ
best_taken u t zero taken = all_groups t
best_taken u t (suc turns) taken = option_map_or (λ best. best_taken u t turns (taken ++ best ∷ [])) (best_of u t taken None (all_groups t)) (ascending t taken)

-- the groups that cover all links into the set, of which each covers the most for its width (Chvatal 1979)
abbrev pub cover_greedily : NodeSet → TopologyValue → List ℕ
cover_greedily u t = best_taken u t (length t.groups) []

-- how many chunks they carry together in one round
abbrev pub width_of : TopologyValue → List ℕ → ℕ
width_of t groups = sum_by (λ group. (group_at t group).width) groups

-- the second where it carries less, else the first
abbrev pub narrower : TopologyValue → List ℕ → List ℕ → List ℕ
narrower t first second = if nat_lt (width_of t second) (width_of t first) then second else first

-- where every set is looked at, the narrowest of the three covers, and of two that are as narrow the one named first; else the cover in the topology's order
abbrev pub cover_by : Sets → NodeSet → TopologyValue → List ℕ
cover_by Nothing u t = cover u t
cover_by Listed u t = cover u t
cover_by All u t = narrower t (narrower t (cover u t) (cover_back u t)) (cover_greedily u t)

abbrev pub width_by : Sets → NodeSet → TopologyValue → ℕ
width_by sets u t = width_of t (cover_by sets u t)

-- ---- what follows

-- the nodes of a set as bits, the groups that cover the links into it, and what has to come in and can in one round
pub record CutValue : Type 0 where
  pub nodes : ℕ
  pub groups : List ℕ
  pub need : ℕ
  pub width : ℕ

abbrev pub cut_of : Sets → TopologyValue → PlacementValue → PlacementValue → NodeSet → CutValue
cut_of sets t pre post u =
    let groups = cover_by sets u t in
    record { nodes = mask_of t.nodes u; groups = groups; need = need_of u pre post; width = width_of t groups }

-- the cut of the first set into which more chunks have to come than can in so many rounds
abbrev pub first_cut_of : Sets → TopologyValue → PlacementValue → PlacementValue → ℕ → Option CutValue
first_cut_of sets t pre post rounds = find (λ cut. nat_lt (cut.width * rounds) cut.need) (map (cut_of sets t pre post) (node_sets sets t.nodes))
