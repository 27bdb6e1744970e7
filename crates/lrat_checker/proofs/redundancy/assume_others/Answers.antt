use Rattle.std.proofs.{Common.arith, lemmas.List.drop_more}
use Rattle.lrat_checker.proofs.Taken.{extends_more}
use Rattle.lrat_checker.proofs.redundancy.assume_others.Goals as goal

pub loop-lit-preserved : goal.loop-lit-preserved
loop-lit-preserved c = grind (arith, drop_more, extends_more c.args.marks.now.falses c.loop-lit.marks.falses)
