use Rattle.std.proofs.Common.{◌≡◌, ℕ, count_by, ap, ◌∙◌}
use Rattle.schedule.specs.{Links.GroupValue, Tables.marked_at, Judging.group_at}
use Rattle.node_cuts.{specs.Cuts.opened, proofs.Opening.counted}
use Rattle.node_cuts.proofs.greedy.choice_of.Goals as goal

pub returns-clause-choice : goal.returns-clause-choice
returns-clause-choice c u taken marks =
    let t = c.args.topology.now in
    let g : ℕ = c.args.group in
    let group_is = c.group_at-of_number.ensures.group in
    let count_is : c.count.result ≡ opened u t taken g =
    c.count.ensures ∙ ap (count_by (marked_at c.args.uncovered.now.cells)) (c.links.ensures.links ∙ ap (λ (group : GroupValue). group.links) group_is)
    ∙ counted u t taken c.args.uncovered.now.cells marks g c.group_at-of_number.ensures.limits in
    let width_is : c.width.result ≡ (group_at t g).width = c.width.ensures.width ∙ ap (λ (group : GroupValue). group.width) group_is in
    λ i. record { group = g; opened = count_is i; width = width_is i }
