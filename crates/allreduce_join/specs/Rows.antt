-- The points of an allreduce on two nodes.
use Rattle.std.specs.Prelude.{ℕ, [], ◌∷◌}
use Rattle.schedule.specs.{Sends.ScheduleValue, Rows.{plan, send, pair_allreduce}}
use Rattle.candidate_order.specs.{declared.mark.Mark.Mark, Frontiers.PointValue}
use Rattle.candidate_order.specs.declared.mark.Mark.TheVariants as mark

-- a point of so many steps, rounds and chunks
abbrev pub point : ℕ → ℕ → ℕ → Mark → ScheduleValue → PointValue
point s r c mark schedule = record { candidate = record { s = s; r = r; c = c }; schedule = schedule; mark = mark }

-- each node sends the chunk that the other adds up
abbrev pub pair_reduce : PointValue
pair_reduce = point 1 1 1 mark.Optimal (plan (1 ∷ []) (send 0 1 0 1 ∷ send 1 0 1 1 ∷ []))

-- each node sends its chunk to the other
abbrev pub pair_gather : PointValue
pair_gather = point 1 1 1 mark.Optimal (plan (1 ∷ []) (send 0 0 1 1 ∷ send 1 1 0 1 ∷ []))

-- the one and then the other
abbrev pub pair_joined : PointValue
pair_joined = point 2 2 1 (mark.Joined 1) pair_allreduce
