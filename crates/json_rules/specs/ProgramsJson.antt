-- The programs of the nodes of a point's schedule as JSON (RFC 8259). The form is this project's own.
use Rattle.std.specs.{Prelude.{ℕ, List, [], ◌∷◌, map, length, slice_index_or, codes}, List.range_with_len}
use Rattle.topology_text.specs.Spelling.{name_at}
use Rattle.node_programs.specs.{declared.op.Op.{Op, TheVariants.{Send, Take}}, Printing.mode_word}
use Rattle.serde_json.specs.{Data.{Data, array, number, object, string, unsigned, no_members, member}, View.items_of}

-- the step, what is done, the chunk and the other node; of a take, also whether it copies or adds
abbrev pub op_json : List (List ℕ) → Op → Data
op_json names (Send chunk to step) = array (items_of (number (unsigned step) ∷ string (codes "send") ∷ number (unsigned chunk) ∷ string (name_at names to) ∷ []))
op_json names (Take chunk from step how) = array (items_of (number (unsigned step) ∷ string (codes "take") ∷ number (unsigned chunk) ∷ string (name_at names from) ∷ string (mode_word how) ∷ []))

abbrev pub node_json : List (List ℕ) → List (List Op) → ℕ → Data
node_json names programs node = object (member (codes "node") (string (name_at names node)) (member (codes "ops") (array (items_of (map (op_json names) (slice_index_or programs node [])))) no_members))

-- the point's number, and each node with its program
abbrev pub programs_json : ℕ → List (List ℕ) → List (List Op) → Data
programs_json point names programs = object (member (codes "point") (number (unsigned point)) (member (codes "programs") (array (items_of (map (node_json names programs) (range_with_len 0 (length names))))) no_members))
