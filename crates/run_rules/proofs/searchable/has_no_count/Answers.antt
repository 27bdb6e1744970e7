use Rattle.std.proofs.Common.{◌==◌, ◌∙◌, ap, length, List, ℕ}
use Rattle.schedule.specs.Links.{TopologyValue}
use Rattle.run_rules.proofs.SizeAndCounts.{counts_are}
use Rattle.run_rules.proofs.searchable.has_no_count.Goals as goal

pub returns : goal.returns
returns c =
    let nodes = c.nodes-nodes.ensures.nodes ∙ ap (λ (x : TopologyValue). x.nodes) c.topology.ensures.topology in
    let counts = counts_are c.args.words c.args.topology.now c.collective.result c.limits.result c.nodes-nodes.result c.in_ok-counts.counts.items c.requires c.collective.ensures c.limits.ensures nodes c.in_ok-counts.ensures.counts in
    c.is_empty.ensures ∙ ap (λ n. n == 0) c.in_ok-counts.counts.ok.0 ∙ ap (λ (xs : List ℕ). length xs == 0) counts
