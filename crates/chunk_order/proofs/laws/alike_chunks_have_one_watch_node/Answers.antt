use Rattle.chunk_order.proofs.Alikeness.{watch_alike}
use Rattle.chunk_order.proofs.laws.alike_chunks_have_one_watch_node.Goals as goal

pub returns : goal.returns
returns c = watch_alike
