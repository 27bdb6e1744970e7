use Rattle.std.{proofs.Common.{◌≡◌, List, drop}, specs.List.list_all}
use Rattle.proof_rules.specs.Accepting.{Group}
use Rattle.lrat_checker.specs.{Stored.answers, inner.Steps.Names}
use Rattle.lrat_checker.proofs.table.are_answered.Given as goal

abbrev pub invariant-loop-place : goal.invariant-loop-place
invariant-loop-place l = (groups : List Group) → Names l.named groups → let test = answers l.ids l.clauses l.pivot l.marks.falses groups in list_all test l.list ≡ list_all test (drop l.place-index l.list)
