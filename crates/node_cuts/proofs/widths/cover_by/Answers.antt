use Rattle.std.proofs.Common.{◌≡◌, ℕ, List, ap, sym, ◌∙◌, ⊎_elim, subst, arith}
use Rattle.schedule.specs.Links.{TopologyValue}
use Rattle.node_cuts.specs.declared.sets.Sets.TheVariants as sets
use Rattle.node_cuts.{specs.{Sides.NodeSet, inner.Listed.members, Cuts.{cover, cover_back, cover_by, cover_greedily, narrower}}, proofs.Within.{IsWithin, back_within, cover_within, greedily_within, narrower_within, within_by}}
use Rattle.node_cuts.proofs.widths.cover_by.Goals as goal

-- what is known of groups
within_as : (t : TopologyValue) (groups known : List ℕ) → groups ≡ known → IsWithin t known → IsWithin t groups
within_as t groups known is within = subst (IsWithin t) (sym is) within

pub narrower-requires : goal.narrower-requires
narrower-requires c =
    let t = c.args.topology.now in
    let u = members c.args.set in
    let first = within_as t c.in_ok-first.first.items (cover u t) (c.in_ok-first.ensures.cover u c.into-into.ensures) (cover_within u t) in
    let second = within_as t c.in_ok-second-in-All.second.items (cover_back u t) (c.in_ok-second-in-All.ensures u c.into-into.ensures) (back_within u t) in
    let limit = c.in_ok-first.ensures.limits.limit in
    record { first = first.below; few_first = omega (arith, first.few, limit); second = second.below; few_second = omega (arith, second.few, limit) }

pub narrower-requires-in-All : goal.narrower-requires-in-All
narrower-requires-in-All c =
    let t = c.args.topology.now in
    let u = members c.args.set in
    let two = c.narrower.ensures ∙ λ i. narrower t (c.in_ok-first.ensures.cover u c.into-into.ensures i) (c.in_ok-second-in-All.ensures u c.into-into.ensures i) in
    let first = within_as t c.narrower.result.items (narrower t (cover u t) (cover_back u t)) two (narrower_within t (cover u t) (cover_back u t) (cover_within u t) (back_within u t)) in
    let second = within_as t c.in_ok-third-in-All.third.items (cover_greedily u t) (c.in_ok-third-in-All.ensures u c.into-into.ensures) (greedily_within u t) in
    let limit = c.in_ok-first.ensures.limits.limit in
    record { first = first.below; few_first = omega (arith, first.few, limit); second = second.below; few_second = omega (arith, second.few, limit) }

pub returns-in-Nothing : goal.returns-in-Nothing
returns-in-Nothing c =
    let t = c.args.topology.now in
    let u : NodeSet = members c.args.set in
    let first : c.in_ok-first.first.items ≡ cover u t = c.in_ok-first.ensures.cover u c.into-into.ensures in
    let same : cover u t ≡ cover_by c.args.sets u t = ⊎_elim (λ (is : c.args.sets ≡ sets.Nothing). ap (λ s. cover_by s u t) (sym is)) (λ (is : c.args.sets ≡ sets.Listed). ap (λ s. cover_by s u t) (sym is)) c.in-Nothing.is in
    let within = within_as t c.in_ok-first.first.items (cover u t) first (cover_within u t) in
    record { cover = first ∙ same; within = within.below; few = omega (arith, within.few, c.in_ok-first.ensures.limits.limit) }

pub returns-in_ok-third-in-All : goal.returns-in_ok-third-in-All
returns-in_ok-third-in-All c =
    let t = c.args.topology.now in
    let u : NodeSet = members c.args.set in
    let now : List ℕ = c.narrower-in-All.result.items in
    let two : c.narrower.result.items ≡ narrower t (cover u t) (cover_back u t) = c.narrower.ensures ∙ λ i. narrower t (c.in_ok-first.ensures.cover u c.into-into.ensures i) (c.in_ok-second-in-All.ensures u c.into-into.ensures i) in
    let is : now ≡ cover_by c.args.sets u t = c.narrower-in-All.ensures ∙ (λ i. narrower t (two i) (c.in_ok-third-in-All.ensures u c.into-into.ensures i)) ∙ ap (λ s. cover_by s u t) (sym c.in-All.is) in
    let within = within_as t now (cover_by c.args.sets u t) is (within_by c.args.sets u t) in
    record { cover = is; within = within.below; few = omega (arith, within.few, c.in_ok-first.ensures.limits.limit) }
