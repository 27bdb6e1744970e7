-- The text of the programs of a point's schedule (this project's own).
use Rattle.std.specs.{Prelude.{ℕ, List, [], ◌∷◌, ◌++◌, map, codes, decimal}, List.{flat_map, zip}}
use Rattle.text_lines.specs.Text.{text_of}
use Rattle.topology_text.specs.Spelling.{name_at}
use Rattle.node_programs.specs.declared.op.Op.{Op, TheVariants.{Send, Take}}
use Rattle.bag_runs.specs.declared.mode.Mode.{Mode}
use Rattle.bag_runs.specs.declared.mode.Mode.TheVariants as mode

abbrev pub mode_word : Mode → List ℕ
mode_word mode.Copy = codes "copy"
mode_word mode.Add = codes "add"

-- the step, what is done, the chunk and the other node; of a take, also whether it copies or adds
abbrev pub op_words : List (List ℕ) → Op → List (List ℕ)
op_words names (Send chunk to step) = decimal step ∷ codes "send" ∷ decimal chunk ∷ name_at names to ∷ []
op_words names (Take chunk from step how) = decimal step ∷ codes "take" ∷ decimal chunk ∷ name_at names from ∷ mode_word how ∷ []

-- a node's name, and its operations
abbrev pub node_lines : List (List ℕ) → List ℕ × List Op → List (List (List ℕ))
node_lines names node = (codes "node" ∷ node.0 ∷ []) ∷ map (op_words names) node.1

-- the point's number, each node with its program, and the end
unfoldable pub programs_text : ℕ → List (List ℕ) → List (List Op) → List ℕ
programs_text point names programs =
    text_of ((codes "programs" ∷ decimal point ∷ []) ∷ (flat_map (node_lines names) (zip names programs) ++ (codes "end" ∷ []) ∷ []))
