-- A candidate before it is known to be in range. This project's own.
use Rattle.candidate_order.specs.declared.candidate.Candidate.{Candidate}
use Rattle.report_lines.specs.declared.candidates.WideCandidate.{WideCandidate}

abbrev pub candidate_of : WideCandidate → Candidate
candidate_of x = record { s = x.s; r = x.r; c = x.c }
