-- A topology as JSON (RFC 8259), and the text that JSON of this form stands for.
use Rattle.std.specs.Prelude.{ℕ, List, [], Option, option_map}
use Rattle.text_lines.specs.Text.{text_of}
use Rattle.topology_text.specs.Value.{NamedTopologyValue}
use Rattle.serde_json.specs.Data.{Data}
use Rattle.json_values.specs.TopologyForm.{topology}

abbrev pub topology_json : NamedTopologyValue → Data
topology_json t = (topology t.names).json t

-- the lines that JSON of this form stands for, each as its tokens
abbrev pub topology_in : Data → Option (List (List (List ℕ)))
topology_in = (topology []).read

-- the text of these lines
abbrev pub topology_text_in : Data → Option (List ℕ)
topology_text_in d = option_map text_of (topology_in d)
