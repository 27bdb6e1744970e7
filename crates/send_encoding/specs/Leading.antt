-- A schedule's tables: who holds what, and which link brings a chunk to a node first.
use Rattle.std.specs.{Prelude.{ℕ, ◌-◌, ◌==◌, ◌&&◌, not, Bool, false, if◌then◌else◌, List, [], ◌∷◌, slice_index_or}, List.list_any}
use Rattle.schedule.specs.{Placed.{PlacementValue, holds, same_pair}, Sends.{ScheduleValue, link_of}, Running.after}
use Rattle.send_encoding.specs.Variables.{SendMapValue, links_into}

-- the number of the first that passes
abbrev pub leads : {X : Type 0} → (ℕ × X → Bool) → List (ℕ × X) → ℕ → Bool
leads p [] e = false
leads p (z ∷ zs) e = if p z then z.0 == e else leads p zs e

abbrev pub had : PlacementValue → ScheduleValue → ℕ → ℕ → ℕ → Bool
had pre s chunk node step = holds (after pre s step) (chunk, node)

-- a send of the step carries the chunk over the link from a node that has it
abbrev pub carried : PlacementValue → ScheduleValue → ℕ → ℕ → ℕ × (ℕ × ℕ) → Bool
carried pre s chunk step z = had pre s chunk z.1.0 (step - 1) && list_any (λ h. h.step == step && (h.chunk == chunk && same_pair (link_of h) z.1)) s.sends

-- the link is the first that brings the chunk to its node, at the step at which the node comes to have it
abbrev pub brought : SendMapValue → PlacementValue → ScheduleValue → ℕ → ℕ → ℕ → Bool
brought m pre s chunk e step =
    let node = (slice_index_or m.links e (0, 0)).1 in
    not (had pre s chunk node (step - 1)) && (had pre s chunk node step && leads (carried pre s chunk step) (links_into m node) e)
