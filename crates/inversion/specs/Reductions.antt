-- What a reduction needs of its demand, and the part of a schedule that wastes no send (this project's own).
use Rattle.std.specs.Prelude.{◌≡◌, ℕ, ◌-◌, ◌<◌, Bool, true, not, List, [], ◌∷◌, filter}
use Rattle.schedule.specs.{declared.hop.Hop.Hop, Sends.ScheduleValue, Placed.{PlacementValue, holds, same_pair}, Running.after, Solving.moves}

-- each chunk is held by some node
abbrev pub HeldBySome : PlacementValue → Type 0
HeldBySome p = (chunk : ℕ) → chunk < p.chunks → (node : ℕ) × (node < p.nodes) × (holds p (chunk, node) ≡ true)

-- before its step the sender holds the chunk and the receiver lacks it
abbrev pub is_useful : PlacementValue → ScheduleValue → Hop → Bool
is_useful pre s h = moves (after pre s (h.step - 1)) h

-- the send brings its chunk to another node than the first does, or another chunk
abbrev pub is_other : Hop → Hop → Bool
is_other h o = not (same_pair (h.chunk, h.to) (o.chunk, o.to))

-- of the sends of one chunk to one node, the first
abbrev pub firsts : List Hop → List Hop
firsts [] = []
firsts (h ∷ hops) = h ∷ filter (is_other h) (firsts hops)

-- the same rounds, without the sends that are wasted
abbrev pub tightened : PlacementValue → ScheduleValue → ScheduleValue
tightened pre s = record { rounds = s.rounds; sends = firsts (filter (is_useful pre s) s.sends) }
