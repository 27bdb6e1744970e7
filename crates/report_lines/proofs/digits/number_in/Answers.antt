use Rattle.report_lines.proofs.InRange.{none_in_range}
use Rattle.report_lines.proofs.digits.number_in.Goals as goal

pub returns-in-None-clause-spelled : goal.returns-in-None-clause-spelled
returns-in-None-clause-spelled c = none_in_range c.args.digits.now c.args.least c.args.greatest c.requires.number c.ranges.greatest.fits c.in-None.ensures.value
