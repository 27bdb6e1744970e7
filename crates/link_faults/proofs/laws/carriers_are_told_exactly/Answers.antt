use Rattle.std.proofs.{Common.arith, lemmas.List.Folds.{Any-from_list_any, list_any-from_Any}}
use Rattle.link_faults.proofs.Recorded.{carrier_is, carrier_from}
use Rattle.link_faults.proofs.laws.carriers_are_told_exactly.Goals as goal

pub returns : goal.returns
returns c = grind (arith, carrier_is, carrier_from, Any-from_list_any, list_any-from_Any)
