use Rattle.std.{proofs.Common.{◌≡◌, take}, specs.List.enumerate_from}
use Rattle.lrat_checker.proofs.table.ClauseTable.new.Given as goal

abbrev pub invariant-loop-place : goal.invariant-loop-place
invariant-loop-place l = record {
  vars : l.table.vars ≡ l.formula.vars;
  clauses : l.table.clauses ≡ take l.place l.formula.clauses;
  held : l.table.held ≡ enumerate_from 1 (take l.place l.formula.clauses);
  last : l.table.last ≡ l.place;
}
