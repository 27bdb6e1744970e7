-- The checks of a point: its candidate and mark, its rounds, and its sends. This project's own text.
use Rattle.std.specs.{Prelude.{◌==◌, ◌&&◌, ◌+◌, ◌*◌, not, ℕ, Bool, true, if◌then◌else◌, List, [], ◌∷◌, length, map, sum, codes, nat_lt, nat_le, bytes_eq, Option, None, Some, Result, Ok}, List.{list_all, last_or}}
use Rattle.text_lines.specs.{Text.{Row, Place}, Check.{◌>>=◌, refuse, need, line_part}, Repeated.lines_at}
use Rattle.schedule.specs.{declared.hop.Hop.Hop, Sends.hop_before}
use Rattle.collective_spec.specs.Collectives.{chunks_in}
use Rattle.candidate_order.specs.{declared.{candidate.Candidate.Candidate, mark.Mark.Mark}, Frontiers.{QuestionValue, PointValue}}
use Rattle.candidate_order.specs.declared.mark.Mark.TheVariants as mark
use Rattle.report_form.specs.{declared.fault.ReportCode.ReportCode, Fields.{small_number, next_word, next_number, next_node, fixed_word, no_more}, Lines.tokens_line, Tests.{is_within, comes_next}}
use Rattle.report_form.specs.declared.fault.ReportCode.TheVariants as code

-- the steps, the rounds and the chunk count, and the tokens behind them
abbrev pub candidate_from : List (List ℕ) → Result (Candidate × List (List ℕ)) ReportCode
candidate_from words = do
  s ← next_number words
  r ← next_number s.1
  c ← next_number r.1
  Ok (record { s = s.0; r = r.0; c = c.0 }, c.1)

-- ---- the line of a candidate and its mark

pub record HeadValue : Type 0 where
  pub candidate : Candidate
  pub mark : Mark

-- the mark of a point of a frontier
abbrev pub mark_named : List ℕ → Option Mark
mark_named word = if bytes_eq word (codes "optimal") then Some mark.Optimal else (if bytes_eq word (codes "open") then Some mark.Open else None)

-- the shape of the line of a point of a frontier
abbrev pub head_from : List (List ℕ) → Result HeadValue ReportCode
head_from words = do
  a ← fixed_word (codes "point") words
  x ← candidate_from a
  said ← next_word mark_named x.1
  _ ← no_more said.1
  Ok (record { candidate = x.0; mark = said.0 })

-- within the limits, and behind the point before it
abbrev pub head_line : QuestionValue → Option Candidate → Option Row → Result HeadValue ReportCode
head_line q last line = do
  words ← tokens_line line
  head ← head_from words
  _ ← refuse (not (is_within q head.candidate && comes_next last head.candidate)) code.Limits
  Ok head

-- the shape of the line of a joined point
abbrev pub joined_head_from : List (List ℕ) → Result (Candidate × ℕ) ReportCode
joined_head_from words = do
  a ← fixed_word (codes "point") words
  x ← candidate_from a
  b ← fixed_word (codes "joined") x.1
  adding ← next_number b
  _ ← no_more adding.1
  Ok (x.0, adding.0)

-- the candidate may be that of two points within the limits, and some steps add and some copy
abbrev pub may_join : QuestionValue → Candidate → ℕ → Bool
may_join q x adding =
    nat_le 2 x.s && nat_le x.s (2 * q.limits.max_s) && nat_le x.s x.r && nat_le x.r (x.s + 2 * q.limits.k)
    && nat_le 1 x.c && nat_le x.c q.limits.max_c && nat_le 1 adding && nat_lt adding x.s

abbrev pub joined_head_line : QuestionValue → Option Row → Result HeadValue ReportCode
joined_head_line q line = do
  words ← tokens_line line
  head ← joined_head_from words
  _ ← refuse (not (may_join q head.0 head.1)) code.Limits
  Ok (record { candidate = head.0; mark = mark.Joined head.1 })

-- ---- the line of the rounds

-- each token is a small number
abbrev pub numbers_from : List (List ℕ) → Result (List ℕ) ReportCode
numbers_from [] = Ok []
numbers_from (w ∷ ws) = do
  n ← need (small_number w) code.BadLine
  ns ← numbers_from ws
  Ok (n ∷ ns)

-- the shape of the line
abbrev pub rounds_from : List (List ℕ) → Result (List ℕ) ReportCode
rounds_from words = do
  a ← fixed_word (codes "rounds") words
  numbers_from a

-- one number for each step, each from 1 to 9, and all of them together the candidate's rounds
abbrev pub are_rounds : Candidate → List ℕ → Bool
are_rounds x rounds = length rounds == x.s && list_all (λ n. nat_le 1 n && nat_le n 9) rounds && sum rounds == x.r

abbrev pub rounds_line : Candidate → Option Row → Result (List ℕ) ReportCode
rounds_line x line = do
  words ← tokens_line line
  rounds ← rounds_from words
  _ ← refuse (not (are_rounds x rounds)) code.Limits
  Ok rounds

-- ---- the lines of the sends

-- the shape of the line
abbrev pub send_from : List (List ℕ) → List (List ℕ) → Result Hop ReportCode
send_from names words = do
  a ← fixed_word (codes "send") words
  chunk ← next_number a
  from ← next_node names chunk.1
  to ← next_node names from.1
  step ← next_number to.1
  _ ← no_more step.1
  Ok (record { chunk = chunk.0; from = from.0; to = to.0; step = step.0 })

-- a send stands behind the one before it, if there is one
abbrev pub follows : Option Hop → Hop → Bool
follows None h = true
follows (Some last) h = hop_before last h

-- the chunk and the step are in range
abbrev pub may_be_sent : ℕ → ℕ → Hop → Bool
may_be_sent chunks steps h = nat_lt h.chunk chunks && nat_le 1 h.step && nat_le h.step steps

abbrev pub send_line : List (List ℕ) → ℕ → ℕ → List Hop → Option Row → Result Hop ReportCode
send_line names chunks steps before line = do
  words ← tokens_line line
  h ← send_from names words
  _ ← refuse (not (may_be_sent chunks steps h && follows (last_or None before) h)) code.Limits
  Ok h

-- ---- a point at a place, and the place behind it

-- what follows the line of the candidate
unfoldable pub schedule_at : List (List ℕ) → QuestionValue → HeadValue → Place → Result (PointValue × Place) (ReportCode × ℕ)
schedule_at names q head p = do
  rounds ← line_part (rounds_line head.candidate) p
  sends ← lines_at (codes "send ") (send_line names (chunks_in q.spec q.topology.nodes head.candidate.c) head.candidate.s) rounds.1
  Ok (record { candidate = head.candidate; schedule = record { rounds = rounds.0; sends = sends.0 }; mark = head.mark }, sends.1)

-- a point of a frontier, after those that were read before
unfoldable pub frontier_point_at : List (List ℕ) → QuestionValue → List PointValue → Place → Result (PointValue × Place) (ReportCode × ℕ)
frontier_point_at names q before p = do
  head ← line_part (head_line q (last_or None (map (λ x. x.candidate) before))) p
  schedule_at names q head.0 head.1

-- a joined point, for which those before it are no matter
unfoldable pub joined_point_at : List (List ℕ) → QuestionValue → List PointValue → Place → Result (PointValue × Place) (ReportCode × ℕ)
joined_point_at names q before p = do
  head ← line_part (joined_head_line q) p
  schedule_at names q head.0 head.1
