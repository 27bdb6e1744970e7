-- The JSON of a topology and the lines that it stands for, in one table. The form is this project's own.
use Rattle.std.specs.{Prelude.{ℕ, ◌+◌, ◌==◌, if◌then◌else◌, List, [], ◌∷◌, map, filter, Option, Some, None, option_map, is_some, codes, decimal}, List.{range_with_len, join_with_byte}}
use Rattle.schedule.specs.{Links.GroupValue, Placed.{PlacementValue, holds}}
use Rattle.collective_spec.specs.Patterns.{PatternValue}
use Rattle.topology_text.specs.{Value.NamedTopologyValue, Spelling.name_at}
use Rattle.serde_json.specs.{Data.{Data, number, unsigned, Items, no_items, item}, Events.items_len, Find.{as_number, as_u64, as_array, get}}
use Rattle.json_values.specs.{Shape.{◌>>=◌, ◌⊕◌, one, headed}, Forms.{Form, count, name, via, each, row, Part, at, at_if, ◌&◌, line_of, fields, says_word}}

-- 1, or 2 where there is a pattern
abbrev pub version : Form (List ℕ) (Option PatternValue)
version = record { json = λ p. number (unsigned (if is_some p then 2 else 1)); read = λ d. as_number d >>= as_u64 >>= λ v. if v == 1 then Some (codes "1" ∷ []) else (if v == 2 then Some (codes "2" ∷ []) else None) }

-- a list of two names: the token of a link between them
abbrev pub link : List (List ℕ) → Form (List ℕ) (ℕ × ℕ)
link names =
    let ends = row {X = ℕ × ℕ} (via (λ l. name_at names l.0) name ∷ via (λ l. name_at names l.1) name ∷ []) in
    record ends { read = λ d. one (option_map (join_with_byte 62) (ends.read d)) }

abbrev pub group : List (List ℕ) → Form (List (List ℕ)) GroupValue
group names = fields (line_of (codes "group") (at (codes "width") (λ g. g.width) count & at (codes "links") (λ g. g.links) (each (link names))))

-- the two lines of each chunk, from chunk g on, where there are as many before as after
abbrev pub chunks_read : ℕ → Items → Items → Option (List (List (List ℕ)))
chunks_read g no_items no_items = Some []
chunks_read g (item b before) (item a after) = one (headed (codes "before") (headed (decimal g) ((each name).read b))) ⊕ one (headed (codes "after") (headed (decimal g) ((each name).read a))) ⊕ chunks_read (g + 1) before after
chunks_read g _ _ = None

-- of each chunk the nodes that hold it, ascending
abbrev pub custom : List (List ℕ) → Form (List (List ℕ)) PatternValue
custom names =
    let holders = λ (p : PatternValue) (held : PlacementValue). map (λ g. filter (λ node. holds held (g, node)) (range_with_len 0 held.nodes)) (range_with_len 0 p.base) in
    let each_chunk : Form (List ℕ) (List (List ℕ)) = each (each (via (name_at names) name)) in
    let members : Part (List ℕ) PatternValue = at (codes "before") (λ p. holders p p.before) each_chunk & at (codes "after") (λ p. holders p p.after) each_chunk in
    let lines : Data → Option (List (List (List ℕ))) = λ d. get (codes "before") d >>= as_array >>= λ before. get (codes "after") d >>= as_array >>= λ after. headed (codes "custom" ∷ decimal (items_len before) ∷ []) (chunks_read 0 before after) in
    fields (record { puts = members.puts; keys = members.keys; read = lines })

-- the names are those of its nodes
abbrev pub topology : List (List ℕ) → Form (List (List ℕ)) NamedTopologyValue
topology names =
    let pattern : Part (List (List ℕ)) NamedTopologyValue = at_if (says_word (codes "version") version.read (codes "2")) (codes "custom") (λ t. t.custom) (custom names) in
    fields (line_of (codes "topology") (at (codes "version") (λ t. t.custom) version) & line_of (codes "nodes") (at (codes "nodes") (λ t. t.names) (each name)) & at (codes "groups") (λ t. t.topology.groups) (each (group names)) & pattern)
