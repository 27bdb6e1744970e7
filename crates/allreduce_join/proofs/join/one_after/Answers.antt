use Rattle.std.proofs.Common.{◌≡◌, ℕ, List, ◌++◌, length, map, arith}
use Rattle.schedule.specs.{declared.hop.Hop.Hop, Sends.ScheduleValue}
use Rattle.allreduce_join.{specs.Joins.one_after, proofs.{Sequence.valid_sequence, Later.later}}
use Rattle.allreduce_join.proofs.join.one_after.Goals as goal

-- the rounds and the sends are those of the one and then of the other
joined : (p q : ScheduleValue) (rounds had more first : List ℕ) (sends before : List Hop) → rounds ≡ had ++ more → had ≡ p.rounds → more ≡ q.rounds → first ≡ p.rounds → sends ≡ before ++ map (later (length first)) q.sends → before ≡ p.sends → record { rounds = rounds; sends = sends } ≡ one_after (length p.rounds) p q
joined p q rounds had more first sends before both had_is more_is first_is sent before_is = grind (arith, later)

pub new-requires : goal.new-requires
new-requires c = grind (arith, joined, valid_sequence)

pub returns-clause-joined : goal.returns-clause-joined
returns-clause-joined c = grind (arith, joined)
