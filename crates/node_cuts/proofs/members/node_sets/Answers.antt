use Rattle.std.{proofs.{Common.{◌-◌, ◌^◌, map, sym, ap, ◌∙◌}, lemmas.{Result.IfOk-weaker, Simd.map-map}}, specs.List.range_with_len}
use Rattle.node_cuts.{specs.{declared.members.Members.TheVariants.{Sided, Bits}, Sides.node_sets, inner.Listed.{listed_sides, members}}, proofs.Listing.listed_are}
use Rattle.node_cuts.proofs.members.node_sets.Goals as goal

pub returns-in-Listed : goal.returns-in-Listed
returns-in-Listed c =
    IfOk-weaker c.sided.result _ _ (λ all is. ap (map members) is ∙ map-map members Sided (listed_sides c.args.nodes) ∙ listed_are c.args.nodes ∙ ap (λ sets. node_sets sets c.args.nodes) (sym c.in-Listed.is)) c.sided.ensures

pub returns-in-All : goal.returns-in-All
returns-in-All c =
    IfOk-weaker c.numbered.result _ _ (λ all is. ap (map members) is ∙ map-map members Bits (range_with_len 1 (2 ^ c.args.nodes - 1)) ∙ ap (λ sets. node_sets sets c.args.nodes) (sym c.in-All.is)) c.numbered.ensures
