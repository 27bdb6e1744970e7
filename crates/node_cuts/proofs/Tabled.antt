-- What a table says at a chunk count is what the sets say of the instance.
use Rattle.std.proofs.{Common.{◌≡◌, ℕ, ◌*◌, ◌/◌, ◌<◌, Bool, true, false, List, get_or, length, refl, sym, ap, ◌∙◌, subst, arith, None, Some, count_by, find, nat_lt}, Math.Nat.{mul_comm, mul-div_cancel}}
use Rattle.std.{proofs.lemmas.List.{get_or_default, length-map, Recursion.{found_at as first_at, found_nowhere}}, specs.Option.option_map}
use Rattle.list_laws.proofs.Fronts.{at_map}
use Rattle.schedule.specs.{Links.TopologyValue, Placed.PlacementValue}
use Rattle.collective_spec.specs.{declared.{spec.Spec.Spec, instance.Instance.Instance}, Kinds.allows, Collectives.{kind_in, spec_instance}}
use Rattle.node_cuts.specs.{declared.{sets.Sets.Sets, measure.Measure.Measure, floor.Floor.Floor}, Sides.{NodeSet, mask_of, node_sets}, Cuts.{CutValue, cover_by, cut_of, first_cut_of, need_of, width_by}, Floors.{fraction_of, least_count}}
use Rattle.node_cuts.specs.{inner.Refuting.cut_refutes, Holders.{HoldersValue, is_lacking}, Tables.{TableValue, IsTableOf, cut_at, measure_of, no_measure, table_of}}
use Rattle.node_cuts.proofs.{Crossing.first_by_set, Least.least_positive, Scaling.{IsScaled, scales}}

-- the least count divides each count that the collective may have, and as many times as much has to come in
pub times_more : (u : NodeSet) (spec : Spec) (nodes c : ℕ) → 0 < nodes → allows (kind_in spec) nodes c ≡ true
    → need_of u (spec_instance spec nodes c).pre (spec_instance spec nodes c).post ≡ need_of u (spec_instance spec nodes (least_count (kind_in spec) nodes)).pre (spec_instance spec nodes (least_count (kind_in spec) nodes)).post * (c / least_count (kind_in spec) nodes)
times_more u spec nodes c some allowed =
    let count : ℕ = least_count (kind_in spec) nodes in
    let least : Instance = spec_instance spec nodes count in
    let scaled : IsScaled u spec nodes c = scales u spec nodes c some allowed in
    let positive : 0 < count = least_positive (kind_in spec) nodes some in
    let times : c / count ≡ scaled.times = ap (λ v. v / count) scaled.count ∙ mul-div_cancel scaled.times positive in
    scaled.needed ∙ mul_comm scaled.times (need_of u least.pre least.post) ∙ ap (λ v. need_of u least.pre least.post * v) (sym times)

-- ---- the first of a list that passes

pub found_at : {X : Type 0} (p : X → Bool) (xs : List X) (i : ℕ) (d : X) → i < length xs → ((k : ℕ) → k < i → p (get_or xs k d) ≡ false) → p (get_or xs i d) ≡ true → find p xs ≡ Some (get_or xs i d)
found_at p = first_at (find p) p Some None refl (λ x xs. refl)

pub none_found_in : {X : Type 0} (p : X → Bool) (xs : List X) (d : X) → ((k : ℕ) → k < length xs → p (get_or xs k d) ≡ false) → find p xs ≡ None
none_found_in p = found_nowhere (find p) p Some None refl (λ x xs. refl)

-- ---- one set

pub measure_told : (sets : Sets) (t : TopologyValue) (pre post : PlacementValue) (u : NodeSet) (holders known : List HoldersValue) (measure : Measure) → ((v : NodeSet) → count_by (is_lacking v) known ≡ need_of v pre post) → holders ≡ known
    → measure ≡ record { need = count_by (is_lacking u) holders; width = width_by sets u t } → measure ≡ measure_of sets t pre post u
measure_told sets t pre post u holders known measure counted same is =
    let needed : count_by (is_lacking u) holders ≡ need_of u pre post = ap (count_by (is_lacking u)) same ∙ counted u in
    is ∙ λ i. record { need = needed i; width = width_by sets u t }

pub fraction_told : (sets : Sets) (t : TopologyValue) (spec : Spec) (u : NodeSet) (nodes least : ℕ) (instance : Instance) (measure : Measure) (fraction : Floor) → nodes ≡ t.nodes → least ≡ least_count (kind_in spec) t.nodes
    → instance ≡ spec_instance spec t.nodes (least_count (kind_in spec) t.nodes) → measure ≡ measure_of sets t instance.pre instance.post u → fraction ≡ record { above = measure.need; below = measure.width * least; nodes = mask_of nodes u } → fraction ≡ fraction_of sets t spec u
fraction_told sets t spec u nodes least instance measure fraction nodes_is least_is instance_is measure_is is = grind arith

-- ---- a table

-- a measure tells that so many times what has to come in is more than can in so many rounds
abbrev pub is_over : ℕ → ℕ → Measure → Bool
is_over times r measure = nat_lt (measure.width * r) (measure.need * times)

abbrev pub nobody : NodeSet
nobody node = false

-- where the table is of a topology and a collective, what is told at a place is what the set there does
module _ (sets : Sets) (t : TopologyValue) (spec : Spec) (c r : ℕ) (some : 0 < t.nodes) (allowed : allows (kind_in spec) t.nodes c ≡ true) where
  abbrev least : Instance
  least = spec_instance spec t.nodes (least_count (kind_in spec) t.nodes)

  abbrev asked : Instance
  asked = spec_instance spec t.nodes c

  abbrev pub times : ℕ
  times = c / least_count (kind_in spec) t.nodes

  abbrev table : TableValue
  table = table_of sets t spec

  abbrev set_at : ℕ → NodeSet
  set_at k = get_or (node_sets sets t.nodes) k nobody

  measure_at : (k : ℕ) → k < length table.measures → get_or table.measures k no_measure ≡ measure_of sets t least.pre least.post (set_at k)
  measure_at k below =
      at_map (measure_of sets t least.pre least.post) (node_sets sets t.nodes) k (set_at k) no_measure (omega (arith, below, length-map (node_sets sets t.nodes) (measure_of sets t least.pre least.post)))
      (get_or_default (node_sets sets t.nodes) k nobody (set_at k) (omega (arith, below, length-map (node_sets sets t.nodes) (measure_of sets t least.pre least.post))))

  told : (k : ℕ) → k < length table.measures → is_over times r (get_or table.measures k no_measure) ≡ cut_refutes sets (set_at k) t asked.pre asked.post r
  told k below = ap (is_over times r) (measure_at k below) ∙ ap (nat_lt (width_by sets (set_at k) t * r)) (sym (times_more (set_at k) spec t.nodes c some allowed))

  abbrev of_need : ℕ → ℕ → CutValue
  of_need k n = record { nodes = mask_of t.nodes (set_at k); groups = cover_by sets (set_at k) t; need = n; width = width_by sets (set_at k) t }

  abbrev of_measure : ℕ → Measure → CutValue
  of_measure k m = record { nodes = mask_of t.nodes (set_at k); groups = cover_by sets (set_at k) t; need = m.need * times; width = m.width }

  cut_is : (k : ℕ) → k < length table.measures → cut_at table k times ≡ cut_of sets t asked.pre asked.post (set_at k)
  cut_is k below = ap (of_measure k) (measure_at k below) ∙ ap (of_need k) (sym (times_more (set_at k) spec t.nodes c some allowed))

  as_long : length table.measures ≡ length (node_sets sets t.nodes)
  as_long = length-map (node_sets sets t.nodes) (measure_of sets t least.pre least.post)

  first_of : (place : ℕ) → place < length table.measures → ((k : ℕ) → k < place → is_over times r (get_or table.measures k no_measure) ≡ false) → is_over times r (get_or table.measures place no_measure) ≡ true
      → Some (cut_at table place times) ≡ first_cut_of sets t asked.pre asked.post r
  first_of place inside before passes =
      let p : NodeSet → Bool = λ u. cut_refutes sets u t asked.pre asked.post r in
      ap Some (cut_is place inside)
      ∙ ap (option_map (cut_of sets t asked.pre asked.post))
      (sym (found_at p (node_sets sets t.nodes) place nobody (omega (arith, inside, as_long))
      (λ k below. sym (told k (omega (arith, below, inside))) ∙ before k below) (sym (told place inside) ∙ passes)))
      ∙ sym (first_by_set sets t asked.pre asked.post r)

  none_of : ((k : ℕ) → k < length table.measures → is_over times r (get_or table.measures k no_measure) ≡ false) → None ≡ first_cut_of sets t asked.pre asked.post r
  none_of each =
      ap (option_map (cut_of sets t asked.pre asked.post))
      (sym (none_found_in (λ u. cut_refutes sets u t asked.pre asked.post r) (node_sets sets t.nodes) nobody (λ k below.
      let inside : k < length table.measures = omega (arith, below, as_long) in
      sym (told k inside) ∙ each k inside)))
      ∙ sym (first_by_set sets t asked.pre asked.post r)

  -- the cut at the first place of a table whose measure tells so
  pub first_in : (v : TableValue) → IsTableOf sets t spec v → (place : ℕ) → place < length v.measures
      → ((k : ℕ) → k < place → is_over (c / v.least) r (get_or v.measures k no_measure) ≡ false) → is_over (c / v.least) r (get_or v.measures place no_measure) ≡ true
      → Some (cut_at v place (c / v.least)) ≡ first_cut_of sets t asked.pre asked.post r
  first_in v is = grind (arith, first_of)

  pub none_in : (v : TableValue) → IsTableOf sets t spec v → ((k : ℕ) → k < length v.measures → is_over (c / v.least) r (get_or v.measures k no_measure) ≡ false) → None ≡ first_cut_of sets t asked.pre asked.post r
  none_in v is = subst (λ (w : TableValue). ((k : ℕ) → k < length w.measures → is_over (c / w.least) r (get_or w.measures k no_measure) ≡ false) → None ≡ first_cut_of sets t asked.pre asked.post r) (sym is) none_of
