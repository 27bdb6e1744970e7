use Rattle.std.proofs.{Common.{arith, None, Ok, refl, sym, ◌∙◌}, lemmas.Result.IfOk-weaker}
use Rattle.frontier_audit.proofs.{CutAway.{checked_where_uncut, passed_where_cut}, Merging.{plain, reads_as}}
use Rattle.frontier_audit.proofs.files.refutation_denied.Goals as goal

pub returns-then-is_cut_away-clause-beside : goal.returns-then-is_cut_away-clause-beside
returns-then-is_cut_away-clause-beside g c =
    reads_as (λ files. passed_where_cut c.args.part c.args.asked.now files c.args.candidate (sym c.is_cut_away.ensures ∙ c.if-is_cut_away.true)) (plain _ _ (Ok tt) None refl)

pub returns-clause-beside : goal.returns-clause-beside
returns-clause-beside g c = grind (arith, IfOk-weaker, reads_as, checked_where_uncut)
