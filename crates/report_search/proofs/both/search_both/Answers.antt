use Rattle.std.proofs.Common.{refl, subst, sym, arith, Contains}
use Rattle.outer_ports.specs.declared.part.Part.TheVariants.{Gather}
use Rattle.candidate_formula.proofs.BegunFiles.{begun_trans}
use Rattle.report_search.proofs.{BothReport.{both_keep, both_prove, both_right, both_searched, both_take}, PartQuestions.two_parts}
use Rattle.report_search.proofs.both.search_both.Goals as goal

pub part_frontier-requires-2-clause-part : goal.part_frontier-requires-2-clause-part
part_frontier-requires-2-clause-part g c = subst (λ parts. Contains parts Gather) (sym (two_parts c.args.words.collective.kind c.requires.kind)) (1, omega arith, refl)

pub returns-in_err-gather-clause-begun : goal.returns-in_err-gather-clause-begun
returns-in_err-gather-clause-begun g c = λ told. begun_trans (c.part_frontier.ensures.begun (c.part_frontier-2.ensures.told told)) (c.part_frontier-2.ensures.begun told)

pub returns-in_err-report-clause-begun : goal.returns-in_err-report-clause-begun
returns-in_err-report-clause-begun g c = λ told. begun_trans (c.part_frontier.ensures.begun (c.part_frontier-2.ensures.told told)) (c.part_frontier-2.ensures.begun told)

pub returns-in_err-gather-clause-keeps : goal.returns-in_err-gather-clause-keeps
returns-in_err-gather-clause-keeps g c = λ kept told. both_keep c.args.words c.args.topology _ (g.H.Shelf.file c.part_frontier.new.shelf) _ (c.part_frontier.ensures.keeps kept (c.part_frontier-2.ensures.told told)) (c.part_frontier-2.ensures.keeps kept told)

pub returns-in_err-report-clause-keeps : goal.returns-in_err-report-clause-keeps
returns-in_err-report-clause-keeps g c = λ kept told. both_keep c.args.words c.args.topology _ (g.H.Shelf.file c.part_frontier.new.shelf) _ (c.part_frontier.ensures.keeps kept (c.part_frontier-2.ensures.told told)) (c.part_frontier-2.ensures.keeps kept told)

pub returns-clause-right : goal.returns-clause-right
returns-clause-right g c =
    both_right c.args.words c.args.topology c.in_ok-reduce.reduce c.in_ok-gather.gather c.requires.asked c.requires.kind c.in_ok-reduce.ensures.found c.in_ok-gather.ensures.found c.in_ok-report.report c.in_ok-report.ensures

pub returns-clause-searched : goal.returns-clause-searched
returns-clause-searched g c =
    both_searched c.args.words c.args.topology c.in_ok-reduce.reduce c.in_ok-gather.gather c.requires.asked c.requires.kind c.in_ok-reduce.ensures.found c.in_ok-gather.ensures.found c.in_ok-report.report c.in_ok-report.ensures c.in_ok-reduce.ensures.uncut c.in_ok-gather.ensures.uncut

pub returns-clause-proves : goal.returns-clause-proves
returns-clause-proves g c = λ told.
    both_prove c.args.words c.args.topology c.in_ok-reduce.reduce c.in_ok-gather.gather c.in_ok-report.report _ (g.H.Shelf.file c.part_frontier.new.shelf) _ c.in_ok-report.ensures (c.in_ok-reduce.ensures.shelved (c.part_frontier-2.ensures.told told))
    (c.in_ok-gather.ensures.shelved told)

pub returns-clause-begun : goal.returns-clause-begun
returns-clause-begun g c = λ told. begun_trans (c.part_frontier.ensures.begun (c.part_frontier-2.ensures.told told)) (c.part_frontier-2.ensures.begun told)

pub returns-clause-takes : goal.returns-clause-takes
returns-clause-takes g c = λ kept told.
    let sooner = c.part_frontier-2.ensures.told told in
    both_take c.args.words c.args.topology c.in_ok-reduce.reduce c.in_ok-gather.gather c.in_ok-report.report _ (g.H.Shelf.file c.part_frontier.new.shelf) c.in_ok-report.ensures (c.in_ok-reduce.ensures.shelved sooner)
    (c.in_ok-reduce.ensures.takes kept sooner) (c.in_ok-gather.ensures.takes kept told)

pub returns-clause-keeps : goal.returns-clause-keeps
returns-clause-keeps g c = λ kept told. both_keep c.args.words c.args.topology _ (g.H.Shelf.file c.part_frontier.new.shelf) _ (c.part_frontier.ensures.keeps kept (c.part_frontier-2.ensures.told told)) (c.part_frontier-2.ensures.keeps kept told)
