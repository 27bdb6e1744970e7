-- The instance of a collective, and what it demands (Cai et al., PPoPP 2021, table of collectives).
use Rattle.std.specs.Prelude.{◌≡◌, ℕ, ◌*◌, ◌<◌, not, Bool, false, if◌then◌else◌, Option, None, Some, option_map, unwrap_or}
use Rattle.collective_spec.specs.{declared.{kind.Kind.{Kind, TheVariants.Custom}, layout.Layout.{Layout, TheVariants.All}, collective.Collective.Collective, instance.Instance.Instance, spec.Spec.Spec}, Layouts.laid_out}
use Rattle.collective_spec.specs.{Patterns.{PatternValue, IsPattern, copied}, Kinds.{is_custom, row_of}}
use Rattle.collective_spec.specs.declared.spec.Spec.TheVariants as spec
use Rattle.schedule.specs.Placed.{PlacementValue}

-- how many chunks there are in all
abbrev pub chunks_of : Kind → ℕ → ℕ → ℕ
chunks_of kind nodes c = unwrap_or (option_map (λ row. if row.per_node then nodes * c else c) (row_of kind)) 0

-- where the chunks are before, or to which chunk which node contributes
abbrev pub layout_before : Kind → ℕ → Layout
layout_before kind root = unwrap_or (option_map (λ row. row.before root) (row_of kind)) All

-- where the chunks, or their sums, have to be after
abbrev pub layout_after : Kind → ℕ → Layout
layout_after kind root = unwrap_or (option_map (λ row. row.after root) (row_of kind)) All

-- the collective adds up what the nodes contribute
abbrev pub reduces : Kind → Bool
reduces kind = unwrap_or (option_map (λ row. row.reduces) (row_of kind)) false

-- the first and the last layout; a reduction is the inverse of a copying collective, which leads back from where the sums have to be
abbrev pub ends_of : Collective → Layout × Layout
ends_of collective =
    let first = layout_before collective.kind collective.root in
    let last = layout_after collective.kind collective.root in
    if reduces collective.kind then (last, first) else (first, last)

-- the chunks that a collective copies, and where they are before and have to be after
abbrev pub instance_of : Collective → ℕ → ℕ → Instance
instance_of collective nodes c =
    let ends = ends_of collective in
    let chunks = chunks_of collective.kind nodes c in
    record { chunks = chunks; pre = laid_out ends.0 chunks nodes; post = laid_out ends.1 chunks nodes }

-- the pairs that have to be reached, by the chunks or by their sums
abbrev pub demand_of : Collective → ℕ → ℕ → PlacementValue
demand_of collective nodes c = laid_out (layout_after collective.kind collective.root) (chunks_of collective.kind nodes c) nodes

-- ---- collectives whose pairs are given

abbrev pub kind_in : Spec → Kind
kind_in (spec.Standard collective) = collective.kind
kind_in (spec.Custom p) = Custom

abbrev pub adds_up : Spec → Bool
adds_up asked = reduces (kind_in asked)

abbrev pub chunks_in : Spec → ℕ → ℕ → ℕ
chunks_in (spec.Standard collective) nodes c = chunks_of collective.kind nodes c
chunks_in (spec.Custom p) nodes c = p.base * c

abbrev pub spec_instance : Spec → ℕ → ℕ → Instance
spec_instance (spec.Standard collective) nodes c = instance_of collective nodes c
spec_instance (spec.Custom p) nodes c = record { chunks = p.base * c; pre = copied p.base c nodes p.before; post = copied p.base c nodes p.after }

abbrev pub spec_demand : Spec → ℕ → ℕ → PlacementValue
spec_demand (spec.Standard collective) nodes c = laid_out (layout_after collective.kind collective.root) (chunks_of collective.kind nodes c) nodes
spec_demand (spec.Custom p) nodes c = copied p.base c nodes p.after

-- the table has the collective, with a root among so many nodes; or the pattern is one for so many nodes
abbrev pub IsSpec : ℕ → Spec → Type 0
IsSpec nodes (spec.Standard collective) = (is_custom collective.kind ≡ false) × (collective.root < nodes)
IsSpec nodes (spec.Custom p) = IsPattern nodes p

-- the collective of a kind and a root, with the pattern where one is given
abbrev pub spec_of : Collective → Option PatternValue → Spec
spec_of collective None = spec.Standard collective
spec_of collective (Some p) = spec.Custom p

-- a pattern is given exactly where the kind is that of given pairs
abbrev pub fits_kind : Kind → Option PatternValue → Bool
fits_kind kind None = not (is_custom kind)
fits_kind kind (Some p) = is_custom kind
