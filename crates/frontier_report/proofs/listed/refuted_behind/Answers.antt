use Rattle.frontier_report.proofs.listed.refuted_behind.Goals as goal

pub returns : goal.returns
returns c = rw c.last_refuted.ensures at c.candidate_behind.ensures.tested
