use Rattle.std.{proofs.Common.{◌≡◌, true, false, take}, specs.List.list_all}
use Rattle.proof_rules.specs.Testing.{has_number_twice}
use Rattle.lrat_checker.specs.Stored.{is_live, kept_live}
use Rattle.lrat_checker.proofs.table.let_go.Given as goal

abbrev pub invariant-loop-taken : goal.invariant-loop-taken
invariant-loop-taken l = record {
  lives : l.live ≡ kept_live l.ids l.initial.live (take l.taken l.gone);
  held : list_all (λ id. is_live l.ids l.initial.live id) (take l.taken l.gone) ≡ true;
  once : has_number_twice (take l.taken l.gone) ≡ false;
}
