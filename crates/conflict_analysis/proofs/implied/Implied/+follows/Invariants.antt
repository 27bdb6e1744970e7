use Rattle.conflict_analysis.proofs.implied.Implied.+follows.Given as goal

abbrev pub decreases-follows : goal.decreases-follows
decreases-follows l = l.deep
