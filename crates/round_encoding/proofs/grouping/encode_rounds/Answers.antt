use Rattle.std.proofs.{Common.{arith, nat_lt, flat_map}, lemmas.Result.on_ok_weaker}
use Rattle.round_encoding.proofs.Countings.{counts_both}
use Rattle.round_encoding.proofs.grouping.encode_rounds.Goals as goal

pub returns : goal.returns
returns c = grind (arith, on_ok_weaker, counts_both, nat_lt, flat_map)
