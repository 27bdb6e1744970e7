-- What pieces of code read of a value: tokens, and lines of tokens.
use Rattle.std.specs.{Prelude.{ℕ, Bool, false, if◌then◌else◌, List, [], ◌∷◌, map, Option, Some, None, option_map, unwrap_or, bytes_eq, decimal, is_some}, List.list_any, Borrow.Bor}
use Rattle.topology_text.specs.Names.{name_of}
use Rattle.serde_json.specs.{Data.{Data, null, Members, no_members, member}, Find.{as_number, as_u64, as_str, as_array, as_object, get}}
use Rattle.json_values.specs.{Shape.{◌>>=◌, one, field}, Forms.{each_read, row_read, same_keys}, declared.token.Token.{Token, TheVariants.{Count, Name, OneOf}}}

-- the one token
abbrev pub token_in : Token → Data → Option (List ℕ)
token_in Count d = option_map decimal (as_number d >>= as_u64)
token_in Name d = as_str d >>= name_of
token_in (OneOf words) d = as_str d >>= λ w. if list_any (λ x. bytes_eq w x.now) words.now then Some w else None

abbrev pub tokens_in : Token → Data → Option (List (List ℕ))
tokens_in token d = one (token_in token d)

-- each item of a list
abbrev pub each_in : {A : Type 0} → (Data → Option (List A)) → Data → Option (List A)
each_in read d = as_array d >>= each_read read

-- a list of one value for each of these tokens
abbrev pub row_in : List Token → Data → Option (List (List ℕ))
row_in tokens d = as_array d >>= row_read (map tokens_in tokens)

-- a list of no items
abbrev pub nothing_in : Data → Option (List (List (List ℕ)))
nothing_in d = as_array d >>= row_read []

-- what is there at a key that may be left out
abbrev pub may_in : {A : Type 0} → List ℕ → (Data → Option (List A)) → Data → Option (List A)
may_in key read d = if is_some (get key d) then field key read d else Some []

-- the text at the key is this word
abbrev pub says : List ℕ → List ℕ → Data → Bool
says key word d = unwrap_or (option_map (λ w. bytes_eq w word) (field key as_str d)) false

-- those keys that are due, each with null
abbrev pub due_keys : List (Bor (List ℕ) × Bool) → Members
due_keys [] = no_members
due_keys (k ∷ ks) = if k.1 then member k.0.now null (due_keys ks) else due_keys ks

-- an object with exactly the keys that are due
abbrev pub has_due_keys : List (Bor (List ℕ) × Bool) → Data → Bool
has_due_keys keys d = unwrap_or (option_map (same_keys (due_keys keys)) (as_object d)) false

abbrev pub fields_in : {A : Type 0} → List (Bor (List ℕ) × Bool) → (Data → Option A) → Data → Option A
fields_in keys read d = as_object d >>= λ ms. if same_keys (due_keys keys) ms then read d else None
