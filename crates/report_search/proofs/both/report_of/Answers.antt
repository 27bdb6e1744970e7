use Rattle.outer_ports.specs.declared.part.Part.TheVariants.{Reduce, Gather}
use Rattle.report_form.specs.Reports.{question_of}
use Rattle.report_search.proofs.{JoinedPoints.all_joinable, BothReport.both_valid_for}
use Rattle.report_search.proofs.both.report_of.Goals as goal

pub joins-requires-clause-reduce : goal.joins-requires-clause-reduce
joins-requires-clause-reduce c = all_joinable (question_of c.args.words c.args.topology Reduce) c.args.reduce c.points.result.now c.points.ensures c.requires.asked.words.limits c.requires.reduce

pub joins-requires-clause-gather : goal.joins-requires-clause-gather
joins-requires-clause-gather c = all_joinable (question_of c.args.words c.args.topology Gather) c.args.gather c.points-2.result.now c.points-2.ensures c.requires.asked.words.limits c.requires.gather

pub new-requires : goal.new-requires
new-requires c =
    both_valid_for c.args.words c.args.topology c.args.reduce c.args.gather c.requires.asked c.requires.kind c.requires.reduce c.requires.gather c.in_ok-frontiers.frontiers.items c.in_ok-joined.joined.items c.points.result.now c.points-2.result.now
    c.in_ok-frontiers.ensures.items c.in_ok-joined.ensures c.points.ensures c.points-2.ensures
