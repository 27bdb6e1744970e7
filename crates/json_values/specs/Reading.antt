-- What is read of JSON of a form. This project's own.
use Rattle.std.specs.Prelude.{ℕ, List, Result}
use Rattle.text_lines.specs.{Check.{◌>>=◌, need}, Text.text_of}
use Rattle.json_values.specs.{declared.fault.JsonCode.{JsonCode, TheVariants.{BadShape, NotJson}}, Answer.of_text, Json.value_of, Forms.Form}

-- what is read of the text that it stands for, or the first check that fails: the bytes are to be JSON, and their value is to have the form
abbrev pub read_json : {X A C : Type 0} → Form (List (List ℕ)) X → (List ℕ → Result A (C × ℕ)) → List ℕ → Result A (JsonCode × ℕ)
read_json form read bytes = do
  value ← need (value_of bytes) (NotJson, 0)
  lines ← need (form.read value) (BadShape, 0)
  of_text (read (text_of lines))
