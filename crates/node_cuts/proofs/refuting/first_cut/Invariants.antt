use Rattle.std.proofs.Common.{◌≡◌, ◌<◌, ℕ, false, slice_index_or}
use Rattle.node_cuts.{specs.{declared.sets.Sets.TheVariants.Listed, Sides.node_sets, inner.Refuting.cut_refutes}, proofs.Tabled.nobody}
use Rattle.node_cuts.proofs.refuting.first_cut.Given as goal

abbrev pub invariant-loop-set : goal.invariant-loop-set
invariant-loop-set l = (k : ℕ) → k < l.set-index → cut_refutes Listed (slice_index_or (node_sets Listed l.topology.nodes) k nobody) l.topology l.instance.pre l.instance.post l.r ≡ false
