use Rattle.std.proofs.Common.{◌≡◌, ◌++◌, map, take, decimal}
use Rattle.lrat_text.specs.Printing.{trailed}
use Rattle.lrat_text.proofs.printing.push_ids.Given as goal

abbrev pub invariant-loop-id : goal.invariant-loop-id
invariant-loop-id l = l.out.items ≡ l.initial.out.items ++ trailed (map decimal (take l.id-index l.ids))
