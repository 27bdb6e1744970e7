use Rattle.lrat_checker.proofs.Forgotten.{IsPart}
use Rattle.lrat_checker.proofs.table.ClauseTable.forget.Given as goal

abbrev pub invariant-loop-place : goal.invariant-loop-place
invariant-loop-place l = IsPart l.self-inside.vars l.first l.place l.self-inside.ids.items l.self-inside.live.items l.self-inside.clauses l.table
