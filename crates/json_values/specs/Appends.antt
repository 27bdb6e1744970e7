-- Appending the text that a value of JSON stands for.
use Rattle.std.specs.Prelude.{◌≡◌, ℕ, List, ◌++◌, Option, None, Some, Result, Ok, Err, option_map}
use Rattle.text_lines.specs.declared.stop.Stop.{Stop, TheVariants.{Memory, Refused}}

-- a text was appended, unless memory ran out; a refusal comes where there is none
abbrev pub Appends : Result (Unit {0}) (Stop (Unit {0})) → List ℕ → List ℕ → Option (List ℕ) → Type 0
Appends (Ok u) old new text = option_map (λ t. old ++ t) text ≡ Some new
Appends (Err Memory) old new text = Unit {0}
Appends (Err (Refused u)) old new text = text ≡ None
