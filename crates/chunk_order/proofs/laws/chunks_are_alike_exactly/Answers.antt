use Rattle.chunk_order.proofs.Alikeness.{alike_before, alike_after, alike_from}
use Rattle.chunk_order.proofs.laws.chunks_are_alike_exactly.Goals as goal

pub returns : goal.returns
returns c = λ pre post c d. (
  λ alike. (λ n low. alike_before pre post c d n alike low, λ n low. alike_after pre post c d n alike low),
  λ same. alike_from pre post c d same.0 same.1,
)
