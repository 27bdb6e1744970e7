-- A table of open links tells what groups open, and what is left after one is taken.
use Rattle.std.proofs.{Common.{◌≡◌, ℕ, Bool, true, false, ◌&&◌, ◌||◌, cond, List, [], ◌∷◌, ◌++◌, length, inl, inr, sym, ap, ◌∙◌, arith, count_by, not}, Math.Bool.and-true, lemmas.{Bool.cases_lt, List.{append-nil, get_or_past}}}
use Rattle.std.{proofs.lemmas.List.{Elements.{All-get_or, recursion_from_All}, Folds.list_any-append}, specs.List.{All, AllByRecursion, list_any}}
use Rattle.schedule.{specs.{Links.{TopologyValue, IsBelow, IsTopology, has_link}, Tables.{Marks, marked_at}, Judging.group_at}, proofs.First.each_weaker}
use Rattle.node_cuts.{specs.{Sides.NodeSet, Cuts.{enters, is_among, opened, opens}, Opened.{MarksOpen, RemovesGroups, is_open}}, proofs.{Choosing.is_new, Counting.{any_alike_of, count_alike_of}}}

-- the links of each group join nodes below 16
pub links_below : (t : TopologyValue) (g : ℕ) → IsTopology t → AllByRecursion (IsBelow 16) (group_at t g).links
links_below t g is =
    elim (cases_lt g (length t.groups)) [
      | inl inside ↦ each_weaker (IsBelow t.nodes) (IsBelow 16) (λ link below. record { from = omega (arith, below.from, is.few); to = omega (arith, below.to, is.few) }) (group_at t g).links
          (recursion_from_All (IsBelow t.nodes) (group_at t g).links (All-get_or (λ group. All (IsBelow t.nodes) group.links) t.groups g (record { links = []; width = 0 }) inside is.nodes))
      | inr past ↦ rw (get_or_past t.groups g (record { links = []; width = 0 }) past) tt
    ]

each_marked : (t : TopologyValue) (cells : List Bool) (test : ℕ × ℕ → Bool) → Marks cells test → (g : ℕ) → IsTopology t → AllByRecursion (λ link. marked_at cells link ≡ test link) (group_at t g).links
each_marked t cells test marks g is = each_weaker (IsBelow 16) (λ link. marked_at cells link ≡ test link) (λ link below. marks link below.from below.to) (group_at t g).links (links_below t g is)

module _ (u : NodeSet) (t : TopologyValue) (groups : List ℕ) (cells : List Bool) (marks : MarksOpen cells u t groups) where
  pub told : (g : ℕ) → IsTopology t → is_open cells (group_at t g) ≡ opens u t groups g
  told g is = any_alike_of (marked_at cells) (is_new u t groups) (group_at t g).links (each_marked t cells (is_new u t groups) marks g is)

  pub counted : (g : ℕ) → IsTopology t → count_by (marked_at cells) (group_at t g).links ≡ opened u t groups g
  counted g is = count_alike_of (marked_at cells) (is_new u t groups) (group_at t g).links (each_marked t cells (is_new u t groups) marks g is)

  -- ---- a group more

  apart : (e a h : Bool) → ((e && not a) && not h) ≡ (e && not (a || (h || false)))
  apart e a h = grind arith

  pub taken_next : (g : ℕ) (o : Bool) (new : List Bool) → Marks new (λ link. marked_at cells link && not (o && has_link (group_at t g) link)) → MarksOpen new u t (groups ++ cond o (g ∷ []) [])
  taken_next g true new after link from to =
      after link from to ∙ ap (λ b. b && not (has_link (group_at t g) link)) (marks link from to) ∙ apart (enters u link) (is_among t groups link) (has_link (group_at t g) link)
      ∙ ap (λ b. enters u link && not b) (sym (list_any-append (λ group. has_link (group_at t group) link) groups (g ∷ [])))
  taken_next g false new after link from to =
      after link from to ∙ and-true (marked_at cells link) ∙ marks link from to ∙ ap (λ gs. enters u link && not (is_among t gs link)) (sym (append-nil groups))

-- at the start no group is taken
pub open_first : (u : NodeSet) (t : TopologyValue) (cells : List Bool) → Marks cells (enters u) → MarksOpen cells u t []
open_first u t cells marks link from to = marks link from to ∙ sym (and-true (enters u link))

-- and then some are at once
pub open_after : (u : NodeSet) (t : TopologyValue) (cells new : List Bool) (groups : List ℕ) → Marks cells (enters u) → RemovesGroups cells new t groups → MarksOpen new u t groups
open_after u t cells new groups marks after link from to = after link from to ∙ ap (λ b. b && not (is_among t groups link)) (marks link from to)

-- a table of the links of a group tells which other has one of them
pub any_marked : (t : TopologyValue) (g other : ℕ) (cells : List Bool) → IsTopology t → Marks cells (has_link (group_at t g)) → list_any (marked_at cells) (group_at t other).links ≡ list_any (has_link (group_at t g)) (group_at t other).links
any_marked t g other cells is marks = any_alike_of (marked_at cells) (has_link (group_at t g)) (group_at t other).links (each_marked t cells (has_link (group_at t g)) marks other is)
