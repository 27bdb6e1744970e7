use Rattle.std.{proofs.{Common.{◌≡◌, ◌*◌, ◌<◌, ℕ, false, List, Some, below_more, get_or, length, map, sym, ap, ◌∙◌, arith, nat_lt}, Math.Nat.mul-one, lemmas.List.{get_or_default, length-map}}, specs.Option.option_map}
use Rattle.list_laws.proofs.Fronts.{at_map}
use Rattle.node_cuts.specs.{declared.{members.Members.{Members, TheVariants.Sided}, side.Side.TheVariants.One, sets.Sets.TheVariants.Listed}, Tables.measure_of, Sides.{NodeSet, mask_of, node_sets}, inner.Listed.members}
use Rattle.node_cuts.{specs.{Cuts.{cut_of, need_of, width_by}, inner.Refuting.cut_refutes}, proofs.{Crossing.first_by_set, Tabled.{found_at, is_over, measure_told, nobody, none_found_in}, refuting.first_cut.Goals.After-refutes}}
use Rattle.node_cuts.proofs.refuting.first_cut.Goals as goal

-- the element of a list at a place is the one of what is mapped
at_place : (items : List Members) (us : List NodeSet) (k : ℕ) (d : Members) → map members items ≡ us → k < length items → members (get_or items k d) ≡ get_or us k nobody
at_place items us k d all inside = sym (at_map members items k (get_or items k d) nobody inside (get_or_default items k d (get_or items k d) inside)) ∙ ap (λ vs. get_or vs k nobody) all

abbrev set_at : After-refutes → NodeSet
set_at c = members (get_or c.deref-set-items.result.now c.loop-set.set-index (Sided (One 0)))

measured : (c : After-refutes) → c.in_ok-measure.measure ≡ measure_of Listed c.args.topology.now c.args.instance.now.pre c.args.instance.now.post (set_at c)
measured c =
    measure_told Listed c.args.topology.now c.args.instance.now.pre c.args.instance.now.post (set_at c) c.deref-in-loop-set.result.now c.in_ok-holders.holders.items c.in_ok-measure.measure c.in_ok-holders.ensures.need c.deref-in-loop-set.ensures.value c.in_ok-measure.ensures.measure

set_is : (c : After-refutes) → set_at c ≡ get_or (node_sets Listed c.args.topology.now.nodes) c.loop-set.set-index nobody
set_is c =
    let all = ap (map members) c.deref-set-items.ensures.value ∙ c.in_ok-node_sets.ensures ∙ ap (node_sets Listed) c.nodes-nodes.ensures.nodes in
    at_place c.deref-set-items.result.now (node_sets Listed c.args.topology.now.nodes) c.loop-set.set-index (Sided (One 0)) all c.loop-set-test.true

told : (c : After-refutes) → c.refutes.result ≡ cut_refutes Listed (get_or (node_sets Listed c.args.topology.now.nodes) c.loop-set.set-index nobody) c.args.topology.now c.args.instance.now.pre c.args.instance.now.post c.args.r
told c =
    let t = c.args.topology.now in
    let i = c.args.instance.now in
    c.refutes.ensures ∙ ap (is_over 1 c.args.r) (measured c) ∙ ap (nat_lt (width_by Listed (set_at c) t * c.args.r)) (mul-one (need_of (set_at c) i.pre i.post)) ∙ ap (λ u. cut_refutes Listed u t i.pre i.post c.args.r) (set_is c)

pub loop-set-preserved : goal.loop-set-preserved
loop-set-preserved c =
    let t = c.args.topology.now in
    let i = c.args.instance.now in
    below_more (λ k. cut_refutes Listed (get_or (node_sets Listed t.nodes) k nobody) t i.pre i.post c.args.r ≡ false) c.loop-set.set-index c.loop-set.invariant (sym (told (goal.at.loop-set-preserved c).After-refutes) ∙ c.if-refutes.false)

pub returns-then-refutes : goal.returns-then-refutes
returns-then-refutes c =
    let t = c.args.topology.now in
    let i = c.args.instance.now in
    let r : ℕ = c.args.r in
    let items : List Members = c.deref-set-items.result.now in
    let us : List NodeSet = node_sets Listed t.nodes in
    let at : ℕ = c.loop-set.set-index in
    let all : map members items ≡ us = ap (map members) c.deref-set-items.ensures.value ∙ c.in_ok-node_sets.ensures ∙ ap (node_sets Listed) c.nodes-nodes.ensures.nodes in
    let after = (goal.at.returns-then-refutes c).After-refutes in
    let u : NodeSet = set_at after in
    let mask_is : c.mask.result ≡ mask_of t.nodes u = c.mask.ensures ∙ ap (λ n. mask_of n u) c.nodes-nodes.ensures.nodes in
    let made : c.new.result ≡ cut_of Listed t i.pre i.post u = c.new.ensures ∙ λ j. record { nodes = mask_is j; groups = c.in_ok-groups.ensures.cover j; need = (measured after j).need; width = (measured after j).width } in
    ap Some (made ∙ ap (cut_of Listed t i.pre i.post) (set_is after))
    ∙ ap (option_map (cut_of Listed t i.pre i.post))
    (sym (found_at (λ v. cut_refutes Listed v t i.pre i.post r) us at nobody (omega (arith, c.loop-set-test.true, ap length all, length-map items members)) c.loop-set.invariant (sym (told after) ∙ c.if-refutes.true)))
    ∙ sym (first_by_set Listed t i.pre i.post r)

pub returns : goal.returns
returns c =
    let t = c.args.topology.now in
    let i = c.args.instance.now in
    let items : List Members = c.deref-set-items.result.now in
    let us : List NodeSet = node_sets Listed t.nodes in
    let all : map members items ≡ us = ap (map members) c.deref-set-items.ensures.value ∙ c.in_ok-node_sets.ensures ∙ ap (node_sets Listed) c.nodes-nodes.ensures.nodes in
    ap (option_map (cut_of Listed t i.pre i.post))
    (sym (none_found_in (λ v. cut_refutes Listed v t i.pre i.post c.args.r) us nobody (λ k below. c.loop-set.invariant k (omega (arith, below, c.loop-set-test.false, ap length all, length-map items members)))))
    ∙ sym (first_by_set Listed t i.pre i.post c.args.r)
