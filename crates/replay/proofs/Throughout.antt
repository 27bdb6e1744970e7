-- Orders of a machine in which every step copies.
use Rattle.std.{proofs.Common.{◌≡◌, ℕ, ◌<◌, List, [], ◌∷◌, map, length, refl, ap, ◌∙◌}, specs.List.AllByRecursion}
use Rattle.schedule.{specs.{Sends.{ScheduleValue, IsInRange}, Placed.{PlacementValue, all_pairs}, Running.after, Bags.{held_at_2, of_placement}, JoinedRuns.joined_after}, proofs.Placing.{IsBelow, all_below}}
use Rattle.bag_runs.{specs.Stores.stored, proofs.CopiedBags.bags_of_held}
use Rattle.node_programs.proofs.Everywhere.{every_order}
use Rattle.replay.specs.Throughout.{EveryCopyingOrderEndsAsHeld}

map_alike : {X Y : Type 0} (P : X → Type 0) (f g : X → Y) → ((x : X) → P x → f x ≡ g x) → (xs : List X) → AllByRecursion P xs → map f xs ≡ map g xs
map_alike P f g same [] each = refl
map_alike P f g same (x ∷ xs) each =
    let first : f x ≡ g x = same x each.0 in
    let rest : map f xs ≡ map g xs = map_alike P f g same xs each.1 in
    cc

-- where every step copies, the stores are those of what is held, with counts held at 2
stored_of_held : (pre : PlacementValue) (s : ScheduleValue) (n : ℕ) → 0 < pre.nodes → IsInRange pre.chunks pre.nodes s
    → stored pre.chunks pre.nodes (joined_after (of_placement pre) s 0 n) ≡ stored pre.chunks pre.nodes (of_placement (after pre s n))
stored_of_held pre s n some in_range =
    ap (λ bags. record { chunks = pre.chunks; nodes = pre.nodes; bags = bags })
    (map_alike (IsBelow pre.chunks pre.nodes) (λ pair. held_at_2 (joined_after (of_placement pre) s 0 n pair)) (λ pair. held_at_2 (of_placement (after pre s n) pair))
    (λ pair below. ap held_at_2 (bags_of_held pre s n pair some in_range below.0 below.1)) (all_pairs pre.chunks pre.nodes) (all_below pre.chunks pre.nodes))

-- whatever the order, the machine ends so
pub ends_as_held : EveryCopyingOrderEndsAsHeld
ends_as_held pre s order end some leads finished =
    every_order pre.chunks pre.nodes (of_placement pre) s 0 order end leads finished ∙ stored_of_held pre s (length s.rounds) some leads.in_range
