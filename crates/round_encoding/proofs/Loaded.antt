-- The sends of a schedule's table load no group more than the schedule does.
use Rattle.std.proofs.{Common.{◌≡◌, ℕ, ◌-◌, ◌<◌, ◌≤◌, true, List, map, length, get_or, eqb, ap, ◌∙◌, arith, ◌&&◌, flat_map, count_by, All}, lemmas.{Bool.{and_parts, and_from}, List.Folds.list_any_at}}
use Rattle.std.specs.List.{list_any, range_with_len}
use Rattle.schedule.specs.{declared.hop.Hop.Hop, Links.{TopologyValue, GroupValue, IsTopology, has_link, is_usable, usable_links}, Fitting.load, Solving.Solves, Placed.{PlacementValue, same_pair}}
use Rattle.schedule.{specs.Sends.{ScheduleValue, IsStep, IsInRange, link_of}, proofs.Placing.{pair_is, pair_itself, holds-placed}}
use Rattle.send_encoding.specs.{Variables.{SendMapValue, map_of, link_number}, Moving.{IsLinkOf, JoinsNodes}, Leading.{had, brought}}
use Rattle.send_encoding.proofs.{Everywhere.{in_map, in_flat, From, in_range, place_below}, Members.{passes_at, member, count_weaker}, Scheduled.first}
use Rattle.round_encoding.proofs.Twice.{any_count, meets_once}

module _ (t : TopologyValue) (pre post : PlacementValue) (s : ScheduleValue) (steps rounds : ℕ) (nodes : pre.nodes ≡ t.nodes) (links : All (JoinsNodes (map_of t pre steps)) (usable_links t))
    (range : IsInRange pre.chunks pre.nodes s) (solves : Solves t pre post s steps rounds) (ok : IsTopology t) where
  abbrev m : SendMapValue
  m = map_of t pre steps

  module _ (i : ℕ) (d : GroupValue) (low : i < length t.groups) where
    abbrev pub group : GroupValue
    group = get_or t.groups i d

    link_is : (link : ℕ × ℕ) → (link.0 < t.nodes) × (link.1 < t.nodes) × (is_usable t link ≡ true) → IsLinkOf m (link_number m link, link)
    link_is link at = grind (arith, holds-placed, place_below, pair_is, passes_at)

    -- each link of the group is one of the map, and stands in the group
    abbrev pub Good : ℕ × ℕ → Type 0
    Good link = IsLinkOf m (link_number m link, link) × (has_link group link ≡ true)

    good : All Good group.links
    good = λ j e few.
        let link = get_or group.links j e in
        let below = ok.nodes i d low j e few in
        let own : has_link group link ≡ true = list_any_at (same_pair link) group.links j e few (pair_itself link) in
        (link_is link (below.from, below.to, list_any_at (λ g. has_link g link) t.groups i d low own), own)

    abbrev pub cells : List (ℕ × (ℕ × ℕ))
    cells = flat_map (λ c. map (λ l. (c, l)) group.links) (range_with_len 0 m.chunks)

    pub good_cells : All (λ z. (z.0 < m.chunks) × Good z.1) cells
    good_cells = in_flat (λ z. (z.0 < m.chunks) × Good z.1) (From 0 m.chunks) (λ c. map (λ l. (c, l)) group.links) (range_with_len 0 m.chunks)
        (λ c at. in_map (λ z. (z.0 < m.chunks) × Good z.1) Good (λ l. (c, l)) group.links (λ l g. (omega (arith, at.1), g)) good) (in_range 0 m.chunks)

    pub table_loads : (k : ℕ) → IsStep steps k → count_by (λ z. brought m pre s z.0 (link_number m z.1) k) cells ≤ load group k s.sends
    table_loads k step =
        let hit = λ (z : ℕ × (ℕ × ℕ)) (h : Hop). eqb h.step k && (eqb h.chunk z.0 && same_pair (link_of h) z.1) in
        let sent = count_weaker (λ z. brought m pre s z.0 (link_number m z.1) k) (λ z. list_any (hit z) s.sends) (λ z. (z.0 < m.chunks) × Good z.1) cells good_cells (λ z at h.
        (and_parts (had pre s z.0 z.1.0 (k - 1)) (list_any (hit z) s.sends) (first t pre post s steps rounds nodes links range solves z.0 k (link_number m z.1, z.1) at.1.0 h).carries).1) in
        let once : (h : Hop) → count_by (λ z. hit z h) cells ≤ 1 = λ h.
        let fewer = count_weaker (λ z. hit z h) (λ z. eqb h.chunk z.0 && same_pair (link_of h) z.1) (λ z. (z.0 < m.chunks) × Good z.1) cells good_cells (λ z at u. (and_parts (eqb h.step k) (eqb h.chunk z.0 && same_pair (link_of h) z.1) u).1) in
        omega (arith, fewer, meets_once h.chunk (link_of h) group.links 0 m.chunks (ok.groups i d low).distinct) in
        let turned = any_count hit cells s.sends once in
        let loaded = count_weaker (λ h. list_any (λ z. hit z h) cells) (λ h. eqb h.step k && has_link group (link_of h)) (λ h. Unit {0}) s.sends (λ j e few. tt) (λ h _ u.
        let found = member (λ z. hit z h) (λ z. (z.0 < m.chunks) × Good z.1) cells good_cells u in
        let now = and_parts (eqb h.step k) (eqb h.chunk found.0.0 && same_pair (link_of h) found.0.1) found.1 in
        let same = pair_is (link_of h) found.0.1 (and_parts (eqb h.chunk found.0.0) (same_pair (link_of h) found.0.1) now.1).1 in
        and_from (eqb h.step k) (has_link group (link_of h)) now.0 (ap (has_link group) same ∙ found.3.1.1)) in
        omega (arith, sent, turned, loaded)
