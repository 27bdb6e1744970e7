use Rattle.std.proofs.{Common.{◌≡◌, ◌+◌, ◌++◌, ℕ, List, [], ◌∷◌, get_or, map, take, sym, ap, ◌∙◌, ⊎_elim, subst, All, MatchOption, Some, filter}, lemmas.{List.{take_all, take_more, Elements.{All-append, All-cons, All-nil}}, Simd.map-map}}
use Rattle.collective_spec.specs.{declared.instance.Instance.Instance, Collectives.{kind_in, spec_instance}}
use Rattle.node_cuts.specs.{declared.{members.Members.{Members, TheVariants.Sided}, side.Side.TheVariants.One, measure.Measure.Measure, floor.Floor.Floor}, Sides.{NodeSet, node_sets}, inner.Listed.members}
use Rattle.node_cuts.specs.{Floors.{first_greatest, floor_of, fraction_of, greater_of, has_need, least_count}, Tables.{IsLow, IsSmall, measure_of}}
use Rattle.node_cuts.proofs.{Best.{IsBest, best_is, best_more}, Filling.mapped_more, Tabled.{fraction_told, measure_told}}
use Rattle.node_cuts.proofs.table.CutTable.new.Goals as goal

pub loop-set-preserved : goal.loop-set-preserved
loop-set-preserved c =
    let t = c.args.topology.now in
    let sets = c.args.sets in
    let spec = c.args.spec.now in
    let i : Instance = c.in_ok-instance.instance in
    let items : List Members = c.deref-set-items.result.now in
    let at : ℕ = c.loop-set.set-index in
    let set : Members = get_or items at (Sided (One 0)) in
    let u : NodeSet = members set in
    let measure : Measure = c.in_ok-measure.measure in
    let nodes_is : c.nodes-nodes.result ≡ t.nodes = c.nodes-nodes.ensures.nodes in
    let least_is : c.least_count-least.result ≡ least_count (kind_in spec) t.nodes = c.least_count-least.ensures ∙ ap (λ k. least_count k c.nodes-nodes.result) c.kind.ensures ∙ ap (least_count (kind_in spec)) nodes_is in
    let instance_is : i ≡ spec_instance spec t.nodes (least_count (kind_in spec) t.nodes) = c.in_ok-instance.ensures ∙ ap (λ n. spec_instance spec n c.least_count-least.result) nodes_is ∙ ap (spec_instance spec t.nodes) least_is in
    let measured : measure ≡ measure_of sets t i.pre i.post u =
    measure_told sets t i.pre i.post u c.deref-in-loop-set.result.now c.in_ok-holders.holders.items measure c.in_ok-holders.ensures.need c.deref-in-loop-set.ensures.value c.in_ok-measure.ensures.measure in
    let g : Members → Floor = λ m. fraction_of sets t spec (members m) in
    let fraction_is : c.fraction_of.result ≡ g set = fraction_told sets t spec u c.nodes-nodes.result c.least_count-least.result i measure c.fraction_of.result nodes_is least_is instance_is measured c.fraction_of.ensures.fraction in
    let more : take (at + 1) items ≡ take at items ++ set ∷ [] = take_more items at (Sided (One 0)) c.loop-set-test.true in
    let best : IsBest (filter has_need (map g (take at items ++ set ∷ []))) (greater_of c.loop-set.best (g set)) = best_more g (take at items) set c.loop-set.best c.loop-set.invariant.best in
    let best_now : c.greater_of-best.result ≡ greater_of c.loop-set.best (g set) = c.greater_of-best.ensures.greater ∙ ap (greater_of c.loop-set.best) fraction_is in
    record {
      made = mapped_more (λ m. measure_of sets t i.pre i.post (members m)) items at (Sided (One 0)) c.loop-set.measures.items c.push.new.self.items measure c.loop-set-test.true c.loop-set.invariant.made measured c.in_ok-push.ensures.items;
      small = subst (All IsSmall) (sym c.in_ok-push.ensures.items) (All-append IsSmall c.loop-set.measures.items (measure ∷ []) c.loop-set.invariant.small (All-cons IsSmall measure [] c.in_ok-measure.ensures.small (All-nil IsSmall)));
      best = subst (λ b. IsBest (filter has_need (map g (take (at + 1) items))) b) (sym best_now) (subst (λ ms. IsBest (filter has_need (map g ms)) (greater_of c.loop-set.best (g set))) (sym more) best);
      low = ⊎_elim
          (λ (same : c.greater_of-best.result ≡ c.loop-set.best). subst (λ o. MatchOption o Unit IsLow) (sym same) c.loop-set.invariant.low)
          (λ (next : c.greater_of-best.result ≡ Some c.fraction_of.result). subst (λ o. MatchOption o Unit IsLow) (sym next) c.fraction_of.ensures.low)
          c.greater_of-best.ensures.either;
    }

pub returns-clause-table : goal.returns-clause-table
returns-clause-table c =
    let t = c.args.topology.now in
    let sets = c.args.sets in
    let spec = c.args.spec.now in
    let i : Instance = c.in_ok-instance.instance in
    let items : List Members = c.deref-set-items.result.now in
    let at : ℕ = c.loop-set.set-index in
    let nodes_is : c.nodes-nodes.result ≡ t.nodes = c.nodes-nodes.ensures.nodes in
    let least : ℕ = least_count (kind_in spec) t.nodes in
    let least_is : c.least_count-least.result ≡ least = c.least_count-least.ensures ∙ ap (λ k. least_count k c.nodes-nodes.result) c.kind.ensures ∙ ap (least_count (kind_in spec)) nodes_is in
    let instance_is : i ≡ spec_instance spec t.nodes least = c.in_ok-instance.ensures ∙ ap (λ n. spec_instance spec n c.least_count-least.result) nodes_is ∙ ap (spec_instance spec t.nodes) least_is in
    let all : map members items ≡ node_sets sets t.nodes = ap (map members) c.deref-set-items.ensures.value ∙ c.in_ok-node_sets.ensures ∙ ap (node_sets sets) nodes_is in
    let whole : take at items ≡ items = take_all at items c.loop-set-test.false in
    let f : Members → Measure = λ m. measure_of sets t i.pre i.post (members m) in
    let g : Members → Floor = λ m. fraction_of sets t spec (members m) in
    let measures_are : c.loop-set.measures.items ≡ map (measure_of sets t (spec_instance spec t.nodes least).pre (spec_instance spec t.nodes least).post) (node_sets sets t.nodes) =
    c.loop-set.invariant.made ∙ ap (map f) whole ∙ sym (map-map (measure_of sets t i.pre i.post) members items) ∙ ap (map (measure_of sets t i.pre i.post)) all
    ∙ ap (λ (j : Instance). map (measure_of sets t j.pre j.post) (node_sets sets t.nodes)) instance_is in
    let floor_is : c.greatest.result ≡ floor_of sets t spec =
    c.greatest.ensures ∙ best_is (filter has_need (map g (take at items))) c.loop-set.best c.loop-set.invariant.best
    ∙ ap (λ ms. first_greatest (filter has_need (map g ms))) whole ∙ ap (λ fs. first_greatest (filter has_need fs)) (sym (map-map (fraction_of sets t spec) members items) ∙ ap (map (fraction_of sets t spec)) all) in
    λ i. record { sets = sets; topology = c.in_ok-copy_of.ensures i; least = least_is i; measures = measures_are i; floor = floor_is i }
