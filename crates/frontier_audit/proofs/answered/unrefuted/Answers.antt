use Rattle.std.proofs.Common.{append-nil, ap, ◌∙◌, arith}
use Rattle.schedule.specs.Links.{TopologyValue}
use Rattle.collective_spec.specs.Collectives.{kind_in}
use Rattle.candidate_order.specs.Ranges.{LimitsValue}
use Rattle.frontier_audit.{specs.inner.Steps.unrefuted_among, proofs.Listing.{all_steps, are_counts, listed_is, no_step, step_added}}
use Rattle.frontier_audit.proofs.answered.unrefuted.Goals as goal

pub loop-step-init : goal.loop-step-init
loop-step-init c = rw c.new-left.ensures.items (ap (unrefuted_among c.args.refuted.now) (all_steps c.args.asked.now))

pub list-requires-clause-counts : goal.list-requires-clause-counts
list-requires-clause-counts c = grind (arith, are_counts)

pub loop-step-preserved : goal.loop-step-preserved
loop-step-preserved c =
    let l = c.loop-step in
    let of_asked = ap (λ (x : LimitsValue). x.max_s) c.limits-limits.ensures.limits in
    let listed = listed_is c.args.asked.now c.limits-limits.result.now c.kind.result c.nodes-nodes.result c.deref.result.now c.limits-limits.ensures.limits
    (c.kind.ensures ∙ ap kind_in c.spec.ensures.spec) (c.nodes-nodes.ensures.nodes ∙ ap (λ (t : TopologyValue). t.nodes) c.topology.ensures.topology)
    (c.deref.ensures.value ∙ c.in_ok-counts.ensures.counts) l.step c.in_ok-candidates.candidates.items l.auto.step (omega arith) c.in_ok-candidates.ensures.members c.in_ok-candidates.ensures.order in
    step_added c.args.asked.now c.args.refuted.now l.left.items c.push_unrefuted.new.left.items c.deref-in-loop-step.result.now l.step (omega arith) (c.deref-in-loop-step.ensures.value ∙ listed) c.in_ok-push_unrefuted.ensures ∙ l.invariant

pub returns : goal.returns
returns c = grind (arith, append-nil, no_step)
