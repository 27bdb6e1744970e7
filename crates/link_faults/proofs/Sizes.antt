-- A search over the links that a fault left is no larger than over those that were given.
use Rattle.std.proofs.{Common.{◌≡◌, ℕ, zero, suc, ◌+◌, ◌*◌, ◌<◌, ◌≤◌, Bool, true, false, cond, List, [], ◌∷◌, length, get_or, refl, sym, ◌∙◌, arith, filter, not, slice_set, sum_by}, lemmas.{Bool.false≢true, Nat.mul-le}}
use Rattle.std.proofs.lemmas.List.Sums.{count_by-le-length, length-filter, sum_by-cons, sum_by-le-sum_by}
use Rattle.schedule.specs.{Links.{GroupValue, TopologyValue, has_link, is_usable, usable_links}, Placed.all_pairs, Judging.group_at}
use Rattle.candidate_order.specs.Frontiers.{QuestionValue}
use Rattle.round_encoding.specs.Candidates.{group_size}
use Rattle.candidate_formula.specs.{Questions.IsSmallQuestion, Sizes.size_of}
use Rattle.link_faults.{specs.{Narrowed.{with_width, without_links, has_links, left_of, narrowed}, Carrying.narrowed_question}, proofs.{Links.{left_usable, set_any}, Sound.narrowed_topology}}

-- ---- links

fewer_pass : {X : Type 0} (p q : X → Bool) → ((x : X) → p x ≡ true → q x ≡ true) → (xs : List X) → length (filter p xs) ≤ length (filter q xs)
fewer_pass p q passes xs = grind (arith, length-filter, sum_by-le-sum_by, false≢true)

usable_before : (t : TopologyValue) (g w : ℕ) (link : ℕ × ℕ) → is_usable (narrowed t g w) link ≡ true → is_usable t link ≡ true
usable_before t g zero link is = (left_usable (group_at t g) t.groups link is).0
usable_before t g (suc w) link is =
    let none : GroupValue = record { links = []; width = 0 } in
    sym (set_any (λ group. has_link group link) t.groups g none (with_width (suc w) (group_at t g)) refl) ∙ is

fewer_links : (t : TopologyValue) (g w : ℕ) → length (usable_links (narrowed t g w)) ≤ length (usable_links t)
fewer_links t g w = fewer_pass (is_usable (narrowed t g w)) (is_usable t) (usable_before t g w) (all_pairs t.nodes t.nodes)

-- ---- groups

less_left : (size : GroupValue → ℕ) (lost : GroupValue) → ((group : GroupValue) → size (without_links lost group) ≤ size group) → (groups : List GroupValue) → sum_by size (left_of lost groups) ≤ sum_by size groups
less_left size lost less [] = omega arith
less_left size lost less (group ∷ groups) =
    let left : List GroupValue = left_of lost groups in
    let rest : sum_by size left ≤ sum_by size groups = less_left size lost less groups in
    let whole = sum_by-cons size group groups in
    elim (has_links (without_links lost group)) as (λ b. sum_by size (cond b (without_links lost group ∷ left) left) ≤ sum_by size (group ∷ groups))
    [ true ↦ omega (arith, rest, less group, whole, sum_by-cons size (without_links lost group) left) | false ↦ omega (arith, rest, whole) ]

less_set : (size : GroupValue → ℕ) (groups : List GroupValue) (g : ℕ) (d y : GroupValue) → size y ≤ size (get_or groups g d) → sum_by size (slice_set groups g y) ≤ sum_by size groups
less_set size [] g d y less = omega arith
less_set size (group ∷ groups) zero d y less = omega (arith, less, sum_by-cons size y groups, sum_by-cons size group groups)
less_set size (group ∷ groups) (suc g) d y less = omega (arith, less_set size groups g d y less, sum_by-cons size group (slice_set groups g y), sum_by-cons size group groups)

module _ (chunks steps extra : ℕ) where
  less_links : (lost group : GroupValue) → group_size chunks steps extra (without_links lost group) ≤ group_size chunks steps extra group
  less_links lost group =
      let links : ℕ = length (without_links lost group).links in
      let all : ℕ = length group.links in
      let rounds : ℕ = group.width * (1 + extra) + 1 in
      let few : links ≤ all = omega (arith, length-filter (λ link. not (has_link lost link)) group.links, count_by-le-length (λ link. not (has_link lost link)) group.links) in
      mul-le (links * chunks * steps) rounds (all * chunks * steps) rounds (mul-le (links * chunks) steps (all * chunks) steps (mul-le links chunks all chunks few (omega arith)) (omega arith)) (omega arith)

  less_width : (group : GroupValue) (w : ℕ) → w ≤ group.width → group_size chunks steps extra (with_width w group) ≤ group_size chunks steps extra group
  less_width group w less =
      let counted : ℕ = length group.links * chunks * steps in
      let narrow : w * (1 + extra) ≤ group.width * (1 + extra) = mul-le w (1 + extra) group.width (1 + extra) less (omega arith) in
      mul-le counted (w * (1 + extra) + 1) counted (group.width * (1 + extra) + 1) (omega arith) (omega (arith, narrow))

  less_groups : (t : TopologyValue) (g w : ℕ) → w ≤ (group_at t g).width → sum_by (group_size chunks steps extra) (narrowed t g w).groups ≤ sum_by (group_size chunks steps extra) t.groups
  less_groups t g zero less = less_left (group_size chunks steps extra) (group_at t g) (less_links (group_at t g)) t.groups
  less_groups t g (suc w) less = less_set (group_size chunks steps extra) t.groups g (record { links = []; width = 0 }) (with_width (suc w) (group_at t g)) (less_width (group_at t g) (suc w) less)

-- ---- the search

pub no_larger : (q : QuestionValue) (g w : ℕ) → w ≤ (group_at q.topology g).width → size_of (narrowed_question q g w) ≤ size_of q
no_larger q g w less = grind (arith, mul-le, fewer_links, sum_by, less_groups)

pub still_small : (q : QuestionValue) (g w : ℕ) → IsSmallQuestion q → g < length q.topology.groups → w < (group_at q.topology g).width → IsSmallQuestion (narrowed_question q g w)
still_small q g w small low less = grind (arith, narrowed_topology, no_larger)
