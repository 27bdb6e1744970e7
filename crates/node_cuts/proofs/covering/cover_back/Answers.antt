use Rattle.std.proofs.{Common.{◌≡◌, ◌<◌, ◌∙◌, [], ap, length, reverse}, lemmas.List.Elements.All-same}
use Rattle.node_cuts.{specs.Cuts.{all_groups, taken_along}, proofs.Within.{all_within, reversed_within}}
use Rattle.node_cuts.proofs.covering.cover_back.Goals as goal

pub taken_along-requires : goal.taken_along-requires
taken_along-requires c =
    let t = c.args.topology.now in
    All-same (λ g. g < length t.groups) c.deref.result.now (reverse (all_groups t)) (c.deref.ensures.value ∙ c.reverse.ensures.items ∙ ap reverse c.in_ok-back.ensures.groups) (reversed_within t (all_groups t) (all_within t)).below

pub returns : goal.returns
returns c u start =
    let t = c.args.topology.now in
    let numbers : c.deref.result.now ≡ reverse (all_groups t) = c.deref.ensures.value ∙ c.reverse.ensures.items ∙ ap reverse c.in_ok-back.ensures.groups in
    c.reverse-2.ensures.items ∙ ap reverse (c.in_ok-groups.ensures u start ∙ ap (taken_along u t []) numbers)
