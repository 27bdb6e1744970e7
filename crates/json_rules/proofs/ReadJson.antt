-- Reading by a form is reading by the lines of a shape.
use Rattle.std.proofs.Common.{◌≡◌, ℕ, List, Option, Some, None, option_map, refl, ap, Result}
use Rattle.text_lines.specs.{Check.{◌>>=◌, need}, Text.text_of}
use Rattle.serde_json.specs.Data.{Data}
use Rattle.json_values.specs.{declared.fault.JsonCode.TheVariants.{BadShape, NotJson}, Json.value_of, Forms.Form, Reading.read_json, Answer.{of_json, of_text, text_of_json}}

module _ {X A C : Type 0} (form : Form (List (List ℕ)) X) (read : List ℕ → Result A (C × ℕ)) where
  found : (o : Option (List (List (List ℕ)))) → (need o (BadShape, 0) >>= λ lines. of_text (read (text_of lines))) ≡ (of_json (need (option_map text_of o) BadShape) >>= λ text. of_text (read text))
  found None = refl
  found (Some lines) = refl

  pub read_alike : (bytes : List ℕ) → read_json form read bytes ≡ (of_json (text_of_json (λ d. option_map text_of (form.read d)) bytes) >>= λ text. of_text (read text))
  read_alike bytes = go (value_of bytes)
    where
      go : (v : Option Data) → (need v (NotJson, 0) >>= λ value. need (form.read value) (BadShape, 0) >>= λ lines. of_text (read (text_of lines))) ≡ (of_json (need v NotJson >>= λ value. need (option_map text_of (form.read value)) BadShape) >>= λ text. of_text (read text))
      go None = refl
      go (Some v) = found (form.read v)

pub readers_alike : {X A C : Type 0} (form : Form (List (List ℕ)) X) (f g : List ℕ → Result A (C × ℕ)) → ((text : List ℕ) → f text ≡ g text) → (bytes : List ℕ) → read_json form f bytes ≡ read_json form g bytes
readers_alike form f g alike bytes = by_value (value_of bytes)
  where
    by_lines : (o : Option (List (List (List ℕ)))) → (need o (BadShape, 0) >>= λ lines. of_text (f (text_of lines))) ≡ (need o (BadShape, 0) >>= λ lines. of_text (g (text_of lines)))
    by_lines None = refl
    by_lines (Some lines) = ap of_text (alike (text_of lines))

    by_value : (o : Option Data) → (need o (NotJson, 0) >>= λ value. need (form.read value) (BadShape, 0) >>= λ lines. of_text (f (text_of lines))) ≡ (need o (NotJson, 0) >>= λ value. need (form.read value) (BadShape, 0) >>= λ lines. of_text (g (text_of lines)))
    by_value None = refl
    by_value (Some value) = by_lines (form.read value)
