use Rattle.std.proofs.{Common.{refl, arith}, lemmas.Bool.false≢true}
use Rattle.chunk_order.proofs.vectors.out_of_turn_is_not_ordered.Goals as goal

pub returns : goal.returns
returns c = λ ordered. false≢true (ordered 0 1 1 1 (omega arith) (omega arith) refl refl (omega arith) refl)
