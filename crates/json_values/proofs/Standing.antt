-- The text that bytes stand for.
use Rattle.std.proofs.Common.{◌≡◌, ℕ, List, [], ◌++◌, Option, Some, None, option_map, refl, ap, ◌∙◌, Ok, Err}
use Rattle.text_lines.specs.Check.{◌>>=◌, need}
use Rattle.serde_json.specs.Data.{Data}
use Rattle.json_values.specs.{declared.fault.JsonCode.TheVariants.{NotJson, BadShape}, Json.value_of, Answer.text_of_json}

abbrev pub StandsFor : (Data → Option (List ℕ)) → List ℕ → List ℕ → Type 0
StandsFor text bytes found = (d : Data) × (value_of bytes ≡ Some d) × (text d ≡ Some found)

given : (o : Option (List ℕ)) (found : List ℕ) → need o BadShape ≡ Ok found → o ≡ Some found
given None found h = absurd cc
given (Some t) found h = let same : t ≡ found = cc in ap Some same

of_value : (text : Data → Option (List ℕ)) (bytes found : List ℕ) (value : Option Data) → value_of bytes ≡ value → (need value NotJson >>= λ d. need (text d) BadShape) ≡ Ok found → StandsFor text bytes found
of_value text bytes found None is h = absurd cc
of_value text bytes found (Some d) is h = (d, is, given (text d) found h)

pub stands_for : (text : Data → Option (List ℕ)) (bytes found : List ℕ) → text_of_json text bytes ≡ Ok found → StandsFor text bytes found
stands_for text bytes found h = of_value text bytes found (value_of bytes) refl h

appended_alone : (o : Option (List ℕ)) (found : List ℕ) → option_map (λ t. [] ++ t) o ≡ Some found → need o BadShape ≡ Ok found
appended_alone None found h = absurd cc
appended_alone (Some t) found h = let same : t ≡ found = cc in ap Ok same

pub text_given : (text : Data → Option (List ℕ)) (bytes : List ℕ) (d : Data) (found : List ℕ) → value_of bytes ≡ Some d → option_map (λ t. [] ++ t) (text d) ≡ Some found → text_of_json text bytes ≡ Ok found
text_given text bytes d found is h = ap (λ o. need o NotJson >>= λ v. need (text v) BadShape) is ∙ appended_alone (text d) found h

pub shape_refused : (text : Data → Option (List ℕ)) (bytes : List ℕ) (d : Data) → value_of bytes ≡ Some d → text d ≡ None → text_of_json text bytes ≡ Err BadShape
shape_refused text bytes d is h = ap (λ o. need o NotJson >>= λ v. need (text v) BadShape) is ∙ ap (λ o. need o BadShape) h
