-- Narrowing a topology and turning its links round, in either order, is the same.
use Rattle.std.proofs.Common.{arith, ◌≡◌, ℕ, zero, suc, Bool, true, false, ltb, cond, List, [], ◌∷◌, length, get_or, map, refl, ap, ◌∙◌, ◌≢◌, filter, not, slice_set, All}
use Rattle.std.{specs.List.list_any, proofs.{lemmas.List.{length-map, Elements.All-weaker}, Math.Bool.and_comm}}
use Rattle.schedule.specs.{Links.{GroupValue, TopologyValue, has_link, turned, reversed_group, reversed_of}, Placed.same_pair, Judging.group_at}
use Rattle.collective_spec.specs.declared.kind.Kind.TheVariants as kind
use Rattle.collective_spec.specs.Collectives.{IsSpec, adds_up, kind_in}
use Rattle.candidate_order.specs.{declared.candidate.Candidate.Candidate, Frontiers.QuestionValue, Copied.{copied_question, copied_spec}}
use Rattle.link_faults.specs.{Narrowed.{with_width, without_links, has_links, left_of, groups_after, narrowed}, Carrying.{IsOldRefuted, narrowed_question}}
use Rattle.inversion.proofs.Copied.{solvable_exactly}

any_turned : (link : ℕ × ℕ) (links : List (ℕ × ℕ)) → list_any (same_pair (turned link)) (map turned links) ≡ list_any (same_pair link) links
any_turned link [] = refl
any_turned link (l ∷ links) = grind (arith, and_comm, any_turned link links)

links_turned : (lost : GroupValue) (links : List (ℕ × ℕ)) → filter (λ link. not (has_link (reversed_group lost) link)) (map turned links) ≡ map turned (filter (λ link. not (has_link lost link)) links)
links_turned lost [] = refl
links_turned lost (l ∷ links) =
    let p : ℕ × ℕ → Bool = λ link. not (has_link (reversed_group lost) link) in
    let same : p (turned l) ≡ not (has_link lost l) = ap not (any_turned l lost.links) in
    let rest : filter p (map turned links) ≡ map turned (filter (λ link. not (has_link lost link)) links) = links_turned lost links in
    ap (λ b. cond b (turned l ∷ filter p (map turned links)) (filter p (map turned links))) same
    ∙ ap (λ ls. cond (not (has_link lost l)) (turned l ∷ ls) ls) rest
    ∙ kept (not (has_link lost l)) (filter (λ link. not (has_link lost link)) links)
  where
    kept : (b : Bool) (ls : List (ℕ × ℕ)) → cond b (turned l ∷ map turned ls) (map turned ls) ≡ map turned (cond b (l ∷ ls) ls)
    kept true ls = refl
    kept false ls = refl

without_turned : (lost group : GroupValue) → without_links (reversed_group lost) (reversed_group group) ≡ reversed_group (without_links lost group)
without_turned lost group = ap (λ ls. record { links = ls; width = group.width }) (links_turned lost group.links)

left_turned : (lost : GroupValue) (groups : List GroupValue) → left_of (reversed_group lost) (map reversed_group groups) ≡ map reversed_group (left_of lost groups)
left_turned lost [] = refl
left_turned lost (group ∷ groups) =
    let left = without_links lost group in
    let rest = left_of (reversed_group lost) (map reversed_group groups) in
    let same : has_links (reversed_group left) ≡ has_links left = ap (λ n. ltb 0 n) (length-map left.links turned) in
    ap (λ g. cond (has_links g) (g ∷ rest) rest) (without_turned lost group)
    ∙ ap (λ b. cond b (reversed_group left ∷ rest) rest) same
    ∙ ap (λ gs. cond (has_links left) (reversed_group left ∷ gs) gs) (left_turned lost groups)
    ∙ kept (has_links left) (left_of lost groups)
  where
    kept : (b : Bool) (gs : List GroupValue) → cond b (reversed_group (without_links lost group) ∷ map reversed_group gs) (map reversed_group gs) ≡ map reversed_group (cond b (without_links lost group ∷ gs) gs)
    kept true gs = refl
    kept false gs = refl

pub at_turned : (groups : List GroupValue) (g : ℕ) → get_or (map reversed_group groups) g (record { links = []; width = 0 }) ≡ reversed_group (get_or groups g (record { links = []; width = 0 }))
at_turned [] g = refl
at_turned (group ∷ groups) zero = refl
at_turned (group ∷ groups) (suc g) = at_turned groups g

set_turned : (groups : List GroupValue) (g : ℕ) (y : GroupValue) → slice_set (map reversed_group groups) g (reversed_group y) ≡ map reversed_group (slice_set groups g y)
set_turned [] g y = refl
set_turned (group ∷ groups) zero y = refl
set_turned (group ∷ groups) (suc g) y = ap (λ gs. reversed_group group ∷ gs) (set_turned groups g y)

groups_turned : (t : TopologyValue) (g w : ℕ) → groups_after (reversed_of t) g w ≡ map reversed_group (groups_after t g w)
groups_turned t g zero = ap (λ lost. left_of lost (map reversed_group t.groups)) (at_turned t.groups g) ∙ left_turned (group_at t g) t.groups
groups_turned t g (suc w) =
    ap (λ group. slice_set (map reversed_group t.groups) g (with_width (suc w) group)) (at_turned t.groups g)
    ∙ set_turned t.groups g (with_width (suc w) (group_at t g))

pub narrowed_turned : (t : TopologyValue) (g w : ℕ) → narrowed (reversed_of t) g w ≡ reversed_of (narrowed t g w)
narrowed_turned t g w = ap (λ gs. record { nodes = t.nodes; groups = gs }) (groups_turned t g w)

pub copied_narrowed : (q : QuestionValue) (g w : ℕ) → narrowed_question (copied_question q) g w ≡ copied_question (narrowed_question q g w)
copied_narrowed q g w = ap (λ t. record { topology = t; spec = copied_spec q.spec; limits = q.limits }) (narrowed_turned q.topology g w)

pub as_many_groups : (t : TopologyValue) → length (reversed_of t).groups ≡ length t.groups
as_many_groups t = length-map t.groups reversed_group

pub group_turned : (t : TopologyValue) (g : ℕ) → group_at (reversed_of t) g ≡ reversed_group (group_at t g)
group_turned t g = at_turned t.groups g

-- what no schedule sums, none copies over the links turned round
pub old_turned : (q : QuestionValue) (old : List Candidate) → adds_up q.spec ≡ true → kind_in q.spec ≢ kind.Allreduce → IsSpec q.topology.nodes q.spec → All (IsOldRefuted q) old → All (IsOldRefuted (copied_question q)) old
old_turned q old adds single fits refuted =
    All-weaker (IsOldRefuted q) (IsOldRefuted (copied_question q)) (λ x it. record { few = it.few; refuted = λ solvable. it.refuted ((solvable_exactly q x adds single fits).1 solvable) }) old refuted
