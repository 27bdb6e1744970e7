-- Which line is blamed, in words of the texts alone.
use Rattle.std.specs.Prelude.{◌≡◌, ℕ, ◌-◌, List, take}
use Rattle.text_lines.specs.Text.{rows_of}
use Rattle.topology_text.specs.{Value.{NamedTopologyValue, IsNamed}, Spelling.spelling}

-- the first n lines of the text are those of the topology's text
abbrev pub Agrees : ℕ → List ℕ → NamedTopologyValue → Type 0
Agrees n text t = take n (rows_of text) ≡ take n (rows_of (spelling t))

-- up to the line before it the text could still be a topology's, and with line n it no longer can
pub record FailsFirstAt (text : List ℕ) (n : ℕ) : Type 0 where
  pub before : (t : NamedTopologyValue) × IsNamed t × Agrees (n - 1) text t
  pub now : (t : NamedTopologyValue) → IsNamed t → Agrees n text t → ⊥
