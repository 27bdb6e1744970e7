use Rattle.std.proofs.{Common.{arith, ◌<◌, ◌∙◌, length}, lemmas.List.Elements.All-same}
use Rattle.node_cuts.{specs.Cuts.all_groups, proofs.Within.all_within}
use Rattle.node_cuts.proofs.covering.cover.Goals as goal

pub taken_along-requires : goal.taken_along-requires
taken_along-requires c =
    let t = c.args.topology.now in
    All-same (λ g. g < length t.groups) c.deref.result.now (all_groups t) (c.deref.ensures.value ∙ c.in_ok-all.ensures.groups) (all_within t).below

pub returns-clause-cover : goal.returns-clause-cover
returns-clause-cover c = grind arith
