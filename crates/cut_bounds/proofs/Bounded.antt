-- The floor over the links turned round bounds each schedule of a reduction.
use Rattle.std.proofs.Common.{◌≡◌, ◌≢◌, ℕ, ◌*◌, ◌<◌, ◌≤◌, true, refl, ◌∙◌, subst, arith}
use Rattle.schedule.specs.{Links.{TopologyValue, reversed_of}, Placed.PlacementValue, Sends.ScheduleValue, Summing.Sums, Rows.everywhere}
use Rattle.collective_spec.specs.{declared.{kind.Kind.Kind, spec.Spec.Spec}, Kinds.allows, Collectives.{IsSpec, adds_up, kind_in, reduces, spec_demand, spec_instance}}
use Rattle.collective_spec.specs.declared.kind.Kind.TheVariants as kind
use Rattle.collective_spec.specs.declared.spec.Spec.TheVariants as spec
use Rattle.candidate_order.specs.Copied.{copied_spec}
use Rattle.candidate_formula.proofs.Copying.{same_allowed}
use Rattle.inversion.{specs.Reductions.HeldBySome, proofs.Reducing.{root_some, scattered_some}}
use Rattle.node_cuts.{specs.{declared.{floor.Floor.Floor, sets.Sets.Sets}, Floors.floor_of, Sides.NodeSet, Cuts.{need_of, width_by}}, proofs.Flooring.{IsBroughtIn, floor_below}}
use Rattle.cut_bounds.proofs.{Summed.sums_bring, Turned.{adding_has_nodes, floor_same}}

-- the collective of which a reduction is the inverse brings each chunk from where its sum is demanded to every node
record IsBack (s : Spec) (nodes c : ℕ) : Type 0 where
  held : HeldBySome (spec_demand s nodes c)
  sized : (spec_demand s nodes c).nodes ≡ nodes
  pre : (spec_instance (copied_spec s) nodes c).pre ≡ spec_demand s nodes c
  post : (spec_instance (copied_spec s) nodes c).post ≡ everywhere (spec_demand s nodes c).chunks (spec_demand s nodes c).nodes

standard_back : (k : Kind) (root nodes c : ℕ) → reduces k ≡ true → k ≢ kind.Allreduce → root < nodes → IsBack (spec.Standard (record { kind = k; root = root })) nodes c
standard_back kind.Broadcast root nodes c adds single below = absurd cc
standard_back kind.Gather root nodes c adds single below = absurd cc
standard_back kind.Allgather root nodes c adds single below = absurd cc
standard_back kind.Scatter root nodes c adds single below = absurd cc
standard_back kind.Alltoall root nodes c adds single below = absurd cc
standard_back kind.Reduce root nodes c adds single below = record { held = root_some root c nodes below; sized = refl; pre = refl; post = refl }
standard_back kind.Reducescatter root nodes c adds single below = record { held = scattered_some (nodes * c) nodes (omega (arith, below)); sized = refl; pre = refl; post = refl }
standard_back kind.Allreduce root nodes c adds single below = absurd (single refl)
standard_back kind.Custom root nodes c adds single below = absurd cc

back : (s : Spec) (nodes c : ℕ) → adds_up s ≡ true → kind_in s ≢ kind.Allreduce → IsSpec nodes s → IsBack s nodes c
back (spec.Standard collective) nodes c adds single is = standard_back collective.kind collective.root nodes c adds single is.1
back (spec.Custom p) nodes c adds single is = absurd cc

-- whatever its steps, a schedule that sums has no fewer rounds for its chunk count than the floor says
pub sums_bound : (sets : Sets) (t : TopologyValue) (spec : Spec) (s : ScheduleValue) (steps rounds c : ℕ) → adds_up spec ≡ true → kind_in spec ≢ kind.Allreduce → IsSpec t.nodes spec → allows (kind_in spec) t.nodes c ≡ true
    → Sums t (spec_demand spec t.nodes c) s steps rounds → (floor_of sets (reversed_of t) spec).above * c ≤ rounds * (floor_of sets (reversed_of t) spec).below
sums_bound sets t spec s steps rounds c adds single is allowed sums =
    let over : TopologyValue = reversed_of t in
    let demand : PlacementValue = spec_demand spec t.nodes c in
    let from : IsBack spec t.nodes c = back spec t.nodes c adds single is in
    let brought : IsBroughtIn sets over (copied_spec spec) rounds c = λ (u : NodeSet).
    let needed : need_of u demand (everywhere demand.chunks demand.nodes) ≤ width_by sets u over * rounds = sums_bring sets u t demand s steps rounds from.sized from.held sums in
    rw (from.pre, from.post) needed in
    let bound : (floor_of sets over (copied_spec spec)).above * c ≤ rounds * (floor_of sets over (copied_spec spec)).below = floor_below sets over (copied_spec spec) rounds c (adding_has_nodes t.nodes spec adds is) (same_allowed spec t.nodes c ∙ allowed) brought in
    subst (λ (f : Floor). f.above * c ≤ rounds * f.below) (floor_same sets over spec) bound
