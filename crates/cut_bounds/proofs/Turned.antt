-- A reduction has the cuts of the collective of which it is the inverse.
use Rattle.std.proofs.{Common.{◌≡◌, ℕ, ◌<◌, true, refl, sym, ap, ◌∙◌, arith, ◌*◌, filter, map}, lemmas.Bool.Decides.nat_tests}
use Rattle.schedule.specs.Links.{TopologyValue}
use Rattle.collective_spec.specs.{declared.{instance.Instance.Instance, kind.Kind.Kind, spec.Spec.Spec}, Collectives.{IsSpec, adds_up, kind_in, spec_instance}}
use Rattle.collective_spec.specs.declared.kind.Kind.TheVariants as kind
use Rattle.collective_spec.specs.declared.spec.Spec.TheVariants as spec
use Rattle.candidate_order.specs.{declared.candidate.Candidate.Candidate, Copied.{copied_kind, copied_spec}}
use Rattle.candidate_formula.proofs.Copying.{same_instance}
use Rattle.node_cuts.specs.{declared.{floor.Floor.Floor, sets.Sets.Sets}, Sides.{NodeSet, mask_of, node_sets}, Cuts.{first_cut_of, need_of, width_by}, Cutting.cut_in, Floors.{first_greatest, floor_of, has_need, least_count}}
use Rattle.node_cuts.specs.Tables.{IsTableOf, TableValue, table_of}

least_alike : (k : Kind) (nodes : ℕ) → least_count (copied_kind k) nodes ≡ least_count k nodes
least_alike kind.Broadcast nodes = refl
least_alike kind.Gather nodes = refl
least_alike kind.Allgather nodes = refl
least_alike kind.Scatter nodes = refl
least_alike kind.Alltoall nodes = refl
least_alike kind.Reduce nodes = refl
least_alike kind.Reducescatter nodes = refl
least_alike kind.Allreduce nodes = refl
least_alike kind.Custom nodes = refl

least_same : (s : Spec) (nodes : ℕ) → least_count (kind_in (copied_spec s)) nodes ≡ least_count (kind_in s) nodes
least_same (spec.Standard collective) nodes = least_alike collective.kind nodes
least_same (spec.Custom p) nodes = refl

pub cut_same : (sets : Sets) (t : TopologyValue) (s : Spec) (x : Candidate) → cut_in sets t (copied_spec s) x ≡ cut_in sets t s x
cut_same sets t s x = ap (λ (i : Instance). first_cut_of sets t i.pre i.post x.r) (same_instance s t.nodes x.c)

-- ---- the floor at a chunk count

abbrev fraction_at : Sets → TopologyValue → ℕ → Instance → NodeSet → Floor
fraction_at sets t least i u = record { above = need_of u i.pre i.post; below = width_by sets u t * least; nodes = mask_of t.nodes u }

abbrev floor_at : Sets → TopologyValue → ℕ → Instance → Floor
floor_at sets t least i = first_greatest (filter has_need (map (fraction_at sets t least i) (node_sets sets t.nodes)))

-- what is made of the least chunk count and its instance is the same
least_alike_in : {X : Type 0} (f : ℕ → Instance → X) (s : Spec) (nodes : ℕ) → let copied = least_count (kind_in (copied_spec s)) nodes in let own = least_count (kind_in s) nodes in
    f copied (spec_instance (copied_spec s) nodes copied) ≡ f own (spec_instance s nodes own)
least_alike_in f s nodes = grind (arith, nat_tests, same_instance, least_same)

pub floor_same : (sets : Sets) (t : TopologyValue) (s : Spec) → floor_of sets t (copied_spec s) ≡ floor_of sets t s
floor_same sets t s = least_alike_in (floor_at sets t) s t.nodes

-- ---- the table

table_alike : (sets : Sets) (t : TopologyValue) (s : Spec) → table_of sets t (copied_spec s) ≡ table_of sets t s
table_alike sets t s = grind (arith, nat_tests, least_alike_in, floor_same)

pub table_same : (sets : Sets) (t : TopologyValue) (s : Spec) (table : TableValue) → IsTableOf sets t s table → IsTableOf sets t (copied_spec s) table
table_same sets t s table is = is ∙ sym (table_alike sets t s)

-- a reduction has a root among the nodes
pub adding_has_nodes : (nodes : ℕ) (s : Spec) → adds_up s ≡ true → IsSpec nodes s → 0 < nodes
adding_has_nodes nodes (spec.Standard collective) adds is = omega (arith, is.1)
adding_has_nodes nodes (spec.Custom p) adds is = absurd (cc)
