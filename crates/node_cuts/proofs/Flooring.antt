-- The floor is a fraction of a set of nodes, or nothing over 1, and no schedule is below it.
use Rattle.std.proofs.{Common.{◌≡◌, ℕ, ◌*◌, ◌<◌, ◌≤◌, Bool, true, List, [], ◌∷◌, sym, ap, ◌∙◌, arith, find, map, Some}, Math.Nat.{mul_comm, mul_assoc, mul-le-mul_right}, lemmas.Bool.cond_both}
use Rattle.std.specs.{List.AllByRecursion, Option.unwrap_or}
use Rattle.list_laws.proofs.Each.{every_map}
use Rattle.schedule.{specs.{Links.TopologyValue, Sends.ScheduleValue, Solving.Solves}, proofs.First.each_filter}
use Rattle.collective_spec.specs.{declared.spec.Spec.Spec, Kinds.allows, Collectives.{kind_in, spec_instance}}
use Rattle.node_cuts.specs.{declared.{sets.Sets.Sets, floor.Floor.Floor}, Sides.{NodeSet, node_sets}, Cuts.{need_of, width_by}, Floors.{least_count, fraction_of, has_need, fractions, is_greatest, nothing_over_1, floor_of}}
use Rattle.node_cuts.proofs.{Crossing.needed_comes_in, Scaling.in_proportion}

-- what has to come into each set of nodes can in so many rounds
abbrev pub IsBroughtIn : Sets → TopologyValue → Spec → ℕ → ℕ → Type 0
IsBroughtIn sets t spec rounds c = (u : NodeSet) → need_of u (spec_instance spec t.nodes c).pre (spec_instance spec t.nodes c).post ≤ width_by sets u t * rounds

-- what is said of each element, and of nothing over 1, is said of the first that passes
of_found : (P : Floor → Type 0) (p : Floor → Bool) (fs : List Floor) → AllByRecursion P fs → P nothing_over_1 → P (unwrap_or (find p fs) nothing_over_1)
of_found P p [] each none = none
of_found P p (f ∷ fs) each none = cond_both (p f) (Some f) (find p fs) (λ o. P (unwrap_or o nothing_over_1)) (λ here. each.0) (λ later. of_found P p fs each.1 none)

-- where what has to come in can in the rounds, each set bounds
side_bounds : (sets : Sets) (t : TopologyValue) (spec : Spec) (rounds c : ℕ) → 0 < t.nodes → allows (kind_in spec) t.nodes c ≡ true → IsBroughtIn sets t spec rounds c → (u : NodeSet) → (fraction_of sets t spec u).above * c ≤ rounds * (fraction_of sets t spec u).below
side_bounds sets t spec rounds c some allowed brought u =
    let least : ℕ = least_count (kind_in spec) t.nodes in
    let n : ℕ = need_of u (spec_instance spec t.nodes least).pre (spec_instance spec t.nodes least).post in
    let k : ℕ = need_of u (spec_instance spec t.nodes c).pre (spec_instance spec t.nodes c).post in
    let w : ℕ = width_by sets u t in
    let times : k * least ≤ w * rounds * least = mul-le-mul_right least (brought u) in
    let left : k * least ≡ n * c = in_proportion u spec t.nodes c some allowed in
    let right : rounds * (w * least) ≡ w * rounds * least = sym (mul_assoc rounds w least) ∙ ap (λ v. v * least) (mul_comm rounds w) in
    omega (arith, left, right, times)

-- so the floor does
pub floor_below : (sets : Sets) (t : TopologyValue) (spec : Spec) (rounds c : ℕ) → 0 < t.nodes → allows (kind_in spec) t.nodes c ≡ true → IsBroughtIn sets t spec rounds c → (floor_of sets t spec).above * c ≤ rounds * (floor_of sets t spec).below
floor_below sets t spec rounds c some allowed brought =
    let bounds : Floor → Type 0 = λ f. f.above * c ≤ rounds * f.below in
    let all : List Floor = map (fraction_of sets t spec) (node_sets sets t.nodes) in
    of_found bounds (is_greatest (fractions sets t spec)) (fractions sets t spec)
    (each_filter bounds has_need all (every_map bounds (fraction_of sets t spec) (side_bounds sets t spec rounds c some allowed brought) (node_sets sets t.nodes))) (omega arith)

pub floor_bounds : (sets : Sets) (t : TopologyValue) (spec : Spec) (s : ScheduleValue) (steps rounds c : ℕ) → 0 < t.nodes → allows (kind_in spec) t.nodes c ≡ true
    → Solves t (spec_instance spec t.nodes c).pre (spec_instance spec t.nodes c).post s steps rounds → (floor_of sets t spec).above * c ≤ rounds * (floor_of sets t spec).below
floor_bounds sets t spec s steps rounds c some allowed solves =
    floor_below sets t spec rounds c some allowed (λ u. needed_comes_in sets u t (spec_instance spec t.nodes c).pre (spec_instance spec t.nodes c).post s steps rounds solves)
