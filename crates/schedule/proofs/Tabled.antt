-- Tables of links: an empty one, and one that had the links of a group added.
use Rattle.std.{proofs.{Common.{◌≡◌, ℕ, ◌+◌, ◌*◌, ◌<◌, Bool, false, ◌||◌, List, replicate, ap, ◌∙◌, arith}, lemmas.List.get_or-replicate}, specs.List.list_any}
use Rattle.schedule.specs.{Placed.same_pair, Tables.{marked_at, Marks, AddsLinks}}

-- an empty table marks no link
pub unmarked : (link : ℕ × ℕ) → link.0 < 16 → link.1 < 16 → marked_at (replicate 256 false) link ≡ false
unmarked link from to = get_or-replicate 256 (link.0 * 16 + link.1) false false (omega arith)

pub first_links : (new : List Bool) (added links : List (ℕ × ℕ)) → AddsLinks (replicate 256 false) new added → added ≡ links → Marks new (λ link. list_any (same_pair link) links)
first_links new added links adds is link from to =
    adds link from to ∙ (ap (λ b. b || list_any (same_pair link) added) (unmarked link from to) ∙ ap (list_any (same_pair link)) is)
