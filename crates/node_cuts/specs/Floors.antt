-- The least number of rounds for each chunk count, whatever the steps: a fraction that the rounds of a schedule over its chunk count are never below. This project's own.
use Rattle.std.specs.{Prelude.{ℕ, ◌*◌, ◌==◌, not, nat_lt, Bool, if◌then◌else◌, List, filter, map, find, Option, None, Some}, List.list_any, Option.unwrap_or}
use Rattle.schedule.specs.Links.{TopologyValue}
use Rattle.collective_spec.specs.{declared.{kind.Kind.{Kind, TheVariants.Alltoall}, spec.Spec.Spec}, Collectives.{kind_in, spec_instance}}
use Rattle.node_cuts.specs.{declared.{sets.Sets.Sets, floor.Floor.Floor}, Sides.{NodeSet, node_sets}, Cuts.cut_of}

-- the least chunk count that the collective may have
abbrev pub least_count : Kind → ℕ → ℕ
least_count Alltoall nodes = nodes
least_count kind nodes = 1

-- what has to come into the set at the least chunk count, over what can in one round times that count
abbrev pub fraction_of : Sets → TopologyValue → Spec → NodeSet → Floor
fraction_of sets t spec u =
    let least = least_count (kind_in spec) t.nodes in
    let i = spec_instance spec t.nodes least in
    let cut = cut_of sets t i.pre i.post u in
    record { above = cut.need; below = cut.width * least; nodes = cut.nodes }

-- something has to come in
abbrev pub has_need : Floor → Bool
has_need f = nat_lt 0 f.above

-- the fractions of the sets into which something has to come
abbrev pub fractions : Sets → TopologyValue → Spec → List Floor
fractions sets t spec = filter has_need (map (fraction_of sets t spec) (node_sets sets t.nodes))

-- the first is greater, by cross products; so something over 0 is greater than all over another number
abbrev pub exceeds : Floor → Floor → Bool
exceeds a b = nat_lt (b.above * a.below) (a.above * b.below)

-- none of them is greater
abbrev pub is_greatest : List Floor → Floor → Bool
is_greatest fs f = not (list_any (λ other. exceeds other f) fs)

abbrev pub nothing_over_1 : Floor
nothing_over_1 = record { above = 0; below = 1; nodes = 0 }

-- the first of the greatest
abbrev pub first_greatest : List Floor → Floor
first_greatest fs = unwrap_or (find (is_greatest fs) fs) nothing_over_1

abbrev pub floor_of : Sets → TopologyValue → Spec → Floor
floor_of sets t spec = first_greatest (fractions sets t spec)

-- the greater of the best so far and the next, which is not taken where nothing has to come in
abbrev pub greater_of : Option Floor → Floor → Option Floor
greater_of None f = if f.above == 0 then None else Some f
greater_of (Some b) f = if f.above == 0 then Some b else if exceeds f b then Some f else Some b
