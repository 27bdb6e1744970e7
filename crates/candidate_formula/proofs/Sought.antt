-- A candidate of a small question is one of its instance.
use Rattle.std.proofs.Common.{arith}
use Rattle.collective_spec.proofs.{Sized.{before_among, after_among}, Chunks.{chunks_some, few_base, chunks_few}}
use Rattle.candidate_order.{specs.{declared.candidate.Candidate.Candidate, Frontiers.{QuestionValue, IsWithin, instance_for}}, proofs.Orders.has_chunk}
use Rattle.round_encoding.specs.Candidates.{IsCandidate}
use Rattle.candidate_formula.specs.Questions.{IsSmallQuestion}

pub candidate_is : (q : QuestionValue) (x : Candidate) → IsSmallQuestion q → IsWithin q x → IsCandidate q.topology (instance_for q x).pre (instance_for q x).post x.s x.r
candidate_is q x ok w = grind (arith, before_among, after_among, has_chunk, chunks_some, chunks_few, few_base)
