use Rattle.std.proofs.{Common.{◌≡◌, ◌*◌, ◌<◌, ℕ, List, get_or, length, map, sym, ap, ◌∙◌, arith}, lemmas.List.{get_or_default, length-map}}
use Rattle.list_laws.proofs.Fronts.{at_map}
use Rattle.node_cuts.{specs.{declared.members.Members.Members, Sides.{NodeSet, mask_of, node_sets}, inner.Listed.members, Cuts.cover_by, Tables.{TableValue, cut_at, no_measure}}, proofs.Tabled.nobody}
use Rattle.node_cuts.proofs.table.CutTable.cut_at.Goals as goal

pub returns : goal.returns
returns c =
    let t = c.self.inside.topology in
    let sets = c.self.inside.sets in
    let v : TableValue = record { sets = sets; topology = t; least = c.self.inside.least; measures = c.self.inside.measures.items; floor = c.self.inside.floor } in
    let place : ℕ = c.args.place in
    let set : Members = c.index-set.result.now in
    let items : List Members = c.in_ok-node_sets.field-0.items in
    let all : map members items ≡ node_sets sets t.nodes = c.in_ok-node_sets.ensures ∙ ap (node_sets sets) c.nodes-nodes.ensures.nodes in
    let long : length c.self.inside.measures.items ≡ length c.args.self.now.measures = ap (λ (w : TableValue). length w.measures) c.self.view_is in
    let measured : place < length c.self.inside.measures.items = omega (arith, long, c.requires) in
    let inside : place < length items = omega (arith, measured, c.self.invariant.each, ap length all, length-map items members) in
    let u : NodeSet = get_or (node_sets sets t.nodes) place nobody in
    let set_is : members set ≡ u = sym (at_map members items place set nobody inside c.index-set.ensures) ∙ ap (λ us. get_or us place nobody) all in
    let measure_is : c.index-measure.result.now ≡ get_or c.self.inside.measures.items place no_measure = c.index-measure.ensures ∙ get_or_default c.self.inside.measures.items place c.index-measure.result.now no_measure measured in
    let mask_is : c.mask.result ≡ mask_of t.nodes u = c.mask.ensures ∙ ap (λ n. mask_of n (members set)) c.nodes-nodes.ensures.nodes ∙ ap (mask_of t.nodes) set_is in
    let cover_is : c.in_ok-groups.groups.items ≡ cover_by sets u t = c.in_ok-groups.ensures.cover ∙ ap (λ w. cover_by sets w t) set_is in
    let made : c.new.result ≡ cut_at v place c.args.times = c.new.ensures ∙ λ i. record { nodes = mask_is i; groups = cover_is i; need = (measure_is i).need * c.from.ensures i; width = (measure_is i).width } in
    made ∙ ap (λ (w : TableValue). cut_at w place c.args.times) c.self.view_is
