use Rattle.std.proofs.Common.{arith}
use Rattle.inversion.proofs.Evening.{last_kept, run_judged, starts_in_range}
use Rattle.inversion.proofs.judge.judge_counts.Goals as goal

pub last_store-requires : goal.last_store-requires
last_store-requires c = starts_in_range c.in_ok-start.start c.args.schedule.now c.args.chunks c.nodes.result c.args.topology.now.nodes c.nodes.ensures.nodes c.in_ok-start.ensures c.requires.in_range

pub counts_verdict-requires-clause-chunks : goal.counts_verdict-requires-clause-chunks
counts_verdict-requires-clause-chunks c = grind (arith, last_kept)

pub counts_verdict-requires-clause-nodes : goal.counts_verdict-requires-clause-nodes
counts_verdict-requires-clause-nodes c = grind (arith, last_kept)

pub returns : goal.returns
returns c = grind (arith, run_judged, last_kept)
