use Rattle.report_search.proofs.WholeReport.{whole_proves, whole_right, whole_searched, whole_takes}
use Rattle.report_search.proofs.whole.search_whole.Goals as goal

pub returns-clause-right : goal.returns-clause-right
returns-clause-right g c = whole_right c.args.words c.args.topology c.in_ok-frontier.frontier c.in_ok-report.report c.in_ok-report.ensures c.requires.asked c.requires.single c.in_ok-frontier.ensures.found

pub returns-clause-searched : goal.returns-clause-searched
returns-clause-searched g c = whole_searched c.args.words c.args.topology c.in_ok-frontier.frontier c.in_ok-report.report c.in_ok-report.ensures c.in_ok-frontier.ensures.found c.in_ok-frontier.ensures.uncut

pub returns-clause-proves : goal.returns-clause-proves
returns-clause-proves g c = λ told. whole_proves c.args.words c.args.topology c.in_ok-frontier.frontier c.in_ok-report.report _ _ c.in_ok-report.ensures (c.in_ok-frontier.ensures.shelved told)

pub returns-clause-takes : goal.returns-clause-takes
returns-clause-takes g c = λ kept told. whole_takes c.args.words c.args.topology c.in_ok-frontier.frontier c.in_ok-report.report _ c.in_ok-report.ensures (c.in_ok-frontier.ensures.takes kept told)
