use Rattle.std.{proofs.Common.{arith, sym, ap, ◌∙◌}, specs.Prelude.unwrap_or}
use Rattle.schedule.specs.Placed.{PlacementValue}
use Rattle.bag_runs.specs.Stores.{StoreValue}
use Rattle.inversion.{specs.Judging.counts_judged, proofs.Evening.run_judged}
use Rattle.allreduce_join.{specs.Judging.joined_bags, proofs.Judged.{joined_counts, joined_due}}
use Rattle.allreduce_join.proofs.judge.all_summed_by_last.Goals as goal

pub returns-in-Some : goal.returns-in-Some
returns-in-Some c = grind (arith, joined_due)

pub counts_verdict-requires-clause-chunks : goal.counts_verdict-requires-clause-chunks
counts_verdict-requires-clause-chunks c = ap (λ (p : PlacementValue). p.chunks) c.in_ok-everywhere.ensures ∙ sym (ap (λ (x : StoreValue). x.chunks) c.requires.last)

pub counts_verdict-requires-clause-nodes : goal.counts_verdict-requires-clause-nodes
counts_verdict-requires-clause-nodes c =
    ap (λ (p : PlacementValue). p.nodes) c.in_ok-everywhere.ensures ∙ (c.nodes-nodes.ensures.nodes ∙ sym (ap (λ (x : StoreValue). x.nodes) c.requires.last))

pub returns : goal.returns
returns c =
    let t = c.args.topology.now in
    let s = c.args.schedule.now in
    let last = joined_bags t s c.args.adding in
    let due = joined_due t c.args.chunks s c.args.adding in
    let everywhere = c.in_ok-everywhere.everywhere in
    joined_counts t c.args.chunks s c.args.adding c.nodes-nodes.result everywhere c.counts_verdict.result c.nodes-nodes.ensures.nodes c.in_ok-everywhere.ensures
    (run_judged c.args.last.now c.counts_verdict.result c.args.chunks t.nodes last everywhere.pairs c.requires.last c.counts_verdict.ensures)
    (ap (λ o. unwrap_or o (counts_judged last due)) (sym c.in_default.is) ∙ c.in_ok-fault.ensures.fault last due)
