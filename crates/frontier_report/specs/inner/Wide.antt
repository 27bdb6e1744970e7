-- Sends and unknown candidates that are not known to be in range. This project's own.
use Rattle.std.specs.Prelude.{ℕ}
use Rattle.schedule.specs.declared.hop.Hop.{Hop}
use Rattle.collective_spec.specs.Collectives.{chunks_in}
use Rattle.candidate_order.specs.{declared.candidate.Candidate.Candidate, Frontiers.UnknownValue}
use Rattle.report_lines.specs.{Asking.asks, declared.question.Question.Question}
use Rattle.frontier_report.specs.declared.sends.WideHop.{WideHop}

abbrev pub hop_of : WideHop → Hop
hop_of h = record { chunk = h.chunk; from = h.from; to = h.to; step = h.step }

abbrev pub unknown : Candidate → ℕ → UnknownValue
unknown x conflicts = record { candidate = x; conflicts = conflicts }

-- the number of all chunks of a candidate
abbrev pub chunks_of : Question → Candidate → ℕ
chunks_of q x = chunks_in (asks q).spec (asks q).topology.nodes x.c
