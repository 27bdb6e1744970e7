use Rattle.std.{proofs.Common.{◌++◌, ◌∙◌, ap, codes}, specs.List.flat_map}
use Rattle.report_printing.{specs.Printed.point_text, proofs.Pieces.{before, joined_is}}
use Rattle.report_printing.proofs.printing.push_joined.Goals as goal

pub returns-in_ok-push_points-in-Allreduce : goal.returns-in_ok-push_points-in-Allreduce
returns-in_ok-push_points-in-Allreduce c =
    rw c.in-Allreduce.is (before c.args.out.now.items c.push_word.new.out.items c.push_points.new.out.items (codes "joined\n") (flat_map (point_text c.args.names.now) c.args.joined.now) c.in_ok-push_word-in-Allreduce.ensures.appended c.in_ok-push_points-in-Allreduce.ensures
    ∙ ap (λ t. c.args.out.now.items ++ t) (joined_is c.args.names.now c.args.joined.now))
