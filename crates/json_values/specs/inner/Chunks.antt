-- What the JSON of a pattern stands for.
use Rattle.std.specs.Prelude.{ℕ, List, [], ◌∷◌, Option, codes, decimal}
use Rattle.serde_json.specs.{Data.Data, Events.items_len, Find.{as_array, get}}
use Rattle.json_values.specs.{Shape.{◌>>=◌, headed}, TopologyForm.chunks_read}

-- how many chunks it has, and the two lines of each
abbrev pub chunks_in : Data → Option (List (List (List ℕ)))
chunks_in d = get (codes "before") d >>= as_array >>= λ before. get (codes "after") d >>= as_array >>= λ after. headed (codes "custom" ∷ decimal (items_len before) ∷ []) (chunks_read 0 before after)
