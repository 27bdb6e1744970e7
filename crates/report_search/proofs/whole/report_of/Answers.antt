use Rattle.std.proofs.Common.{[], subst, sym}
use Rattle.report_form.specs.Reports.{IsReport, whole_report}
use Rattle.report_search.proofs.WholeReport.{whole_valid}
use Rattle.report_search.proofs.whole.report_of.Goals as goal

pub new-requires-2 : goal.new-requires-2
new-requires-2 c =
    let valid : IsReport (whole_report c.args.words c.args.topology c.args.frontier) = whole_valid c.args.words c.args.topology c.args.frontier c.requires.asked c.requires.single c.requires.found in
    subst (λ joined. IsReport (record { words = c.args.words; topology = c.args.topology; frontiers = c.in_ok-frontiers.frontiers.items; joined = joined })) (sym c.new.ensures.items)
    (subst (λ frontiers. IsReport (record { words = c.args.words; topology = c.args.topology; frontiers = frontiers; joined = [] })) (sym c.in_ok-frontiers.ensures.items) valid)
