-- The inverse of a schedule: it runs backwards, over links turned round (Cai et al., PPoPP 2021, inversion).
use Rattle.std.specs.Prelude.{ℕ, ◌+◌, ◌-◌, if◌then◌else◌, List, [], ◌∷◌, length, map, reverse}
use Rattle.schedule.specs.{declared.hop.Hop.Hop, Sends.{ScheduleValue, hop_before}}

-- the send back, in the step that is as far from the last as its own is from the first
abbrev pub inverse_hop : ℕ → Hop → Hop
inverse_hop steps h = record { chunk = h.chunk; from = h.to; to = h.from; step = steps + 1 - h.step }

-- a send in its place among ascending ones
abbrev pub with_hop : Hop → List Hop → List Hop
with_hop h [] = h ∷ []
with_hop h (other ∷ others) = if hop_before h other then h ∷ other ∷ others else other ∷ with_hop h others

-- sends in ascending order
abbrev pub in_order : List Hop → List Hop
in_order [] = []
in_order (h ∷ others) = with_hop h (in_order others)

-- the rounds from the last step to the first, and each send back
abbrev pub inverse_of : ScheduleValue → ScheduleValue
inverse_of s = record { rounds = reverse s.rounds; sends = in_order (map (inverse_hop (length s.rounds)) s.sends) }
