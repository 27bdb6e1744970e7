-- What reading JSON answers: the first check that fails. This project's own.
use Rattle.std.specs.{Prelude.{◌≡◌, ℕ, List, Option, Result, Ok, Err, ◌⊎◌, Vec}, declared.alloc.Global.Global}
use Rattle.text_lines.specs.Check.{◌>>=◌, need}
use Rattle.topology_text.specs.{Value.NamedTopologyValue, Reading.topology_of}
use Rattle.serde_json.specs.Data.{Data}
use Rattle.json_values.specs.{declared.fault.{JsonCode.{JsonCode, TheVariants.{NotJson, BadShape, BadText, OutOfMemory}}, JsonFault.JsonFault}, Json.value_of, TopologyJson.topology_text_in}

-- the numbers of the codes, by which refusals name them
abbrev pub json_number : JsonCode → ℕ
json_number NotJson = 1
json_number BadShape = 2
json_number BadText = 3
json_number OutOfMemory = 4

-- the text that the JSON stands for: the bytes are to be JSON, and their value is to have the shape
abbrev pub text_of_json : (Data → Option (List ℕ)) → List ℕ → Result (List ℕ) JsonCode
text_of_json text bytes = do
  value ← need (value_of bytes) NotJson
  need (text value) BadShape

-- the text is what the checks give, unless memory ran out
abbrev pub GivesText : Result (Vec ℕ Global) JsonCode → Result (List ℕ) JsonCode → Type 0
GivesText (Ok text) read = read ≡ Ok text.items
GivesText (Err code) read = (code ≡ OutOfMemory) ⊎ (read ≡ Err code)

-- a refusal of the JSON has no line
abbrev pub of_json : {A : Type 0} → Result A JsonCode → Result A (JsonCode × ℕ)
of_json (Ok x) = Ok x
of_json (Err code) = Err (code, 0)

-- a refusal of the text, with its line
abbrev pub of_text : {A C : Type 0} → Result A (C × ℕ) → Result A (JsonCode × ℕ)
of_text (Ok x) = Ok x
of_text (Err e) = Err (BadText, e.1)

-- the topology whose text the JSON stands for
abbrev pub topology_of_json : List ℕ → Result NamedTopologyValue (JsonCode × ℕ)
topology_of_json bytes = do
  text ← of_json (text_of_json topology_text_in bytes)
  of_text (topology_of text)

-- the answer is what the checks give, unless memory ran out
abbrev pub Answers : {A : Type 0} → Result A JsonFault → Result A (JsonCode × ℕ) → Type 0
Answers (Ok x) read = read ≡ Ok x
Answers (Err fault) read = ((fault.code ≡ OutOfMemory) × (fault.place ≡ 0)) ⊎ (read ≡ Err (fault.code, fault.place))
