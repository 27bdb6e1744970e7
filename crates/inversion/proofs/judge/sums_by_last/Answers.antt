use Rattle.std.proofs.Common.{arith, ◌∙◌, sym, ap}
use Rattle.bag_runs.specs.Stores.{StoreValue}
use Rattle.inversion.proofs.{Evening.run_judged, Misfits.{judged_fitting, judged_misfit}}
use Rattle.inversion.proofs.judge.sums_by_last.Goals as goal

pub returns-in-Some : goal.returns-in-Some
returns-in-Some c = grind (arith, judged_misfit)

pub counts_verdict-requires-clause-chunks : goal.counts_verdict-requires-clause-chunks
counts_verdict-requires-clause-chunks c = sym (ap (λ (x : StoreValue). x.chunks) c.requires.last)

pub counts_verdict-requires-clause-nodes : goal.counts_verdict-requires-clause-nodes
counts_verdict-requires-clause-nodes c = c.requires.nodes ∙ sym (ap (λ (x : StoreValue). x.nodes) c.requires.last)

pub returns : goal.returns
returns c = grind (arith, run_judged, judged_fitting)
