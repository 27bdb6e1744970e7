use Rattle.schedule.proofs.{Few.narrow, Loads.{step_tabled, step_few, load_counted}}
use Rattle.schedule.proofs.bandwidth.load_of.Goals as goal

pub count-requires-clause-links : goal.count-requires-clause-links
count-requires-clause-links c = step_tabled c.args.schedule.now c.args.step _ (narrow _ c.sends_of.ensures.limits c.requires.in_range) c.sends_of.ensures.sends

pub count-requires-clause-few : goal.count-requires-clause-few
count-requires-clause-few c = step_few c.args.schedule.now c.args.step _ (narrow _ c.sends_of.ensures.limits c.requires.in_range) c.sends_of.ensures.sends

pub returns : goal.returns
returns c = load_counted c.args.group.now c.args.schedule.now c.args.step _ _ _ (narrow _ c.sends_of.ensures.limits c.requires.in_range) c.of.ensures c.sends_of.ensures.sends c.count.ensures
