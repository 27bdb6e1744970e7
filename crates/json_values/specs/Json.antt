-- JSON (RFC 8259): the value that bytes are, as serde_json reads them, and its text, as serde_json prints it.
use Rattle.std.specs.{Prelude.{ℕ, if◌then◌else◌, List, [], ◌∷◌, ◌++◌, Option, None}, Str.is_utf8}
use Rattle.serde_json.specs.{Data.{Data, array, number, unsigned}, Read.read, View.items_of, Written.compact_text}

-- the value that the bytes are: they are to be UTF-8, and lists and objects are to nest no deeper than 127
abbrev pub value_of : List ℕ → Option Data
value_of bytes = if is_utf8 bytes then read bytes else None

-- the value's text without spaces, and a line feed
abbrev pub printed : Data → List ℕ
printed d = compact_text d ++ 10 ∷ []

abbrev pub array_of : List Data → Data
array_of ds = array (items_of ds)

abbrev pub count_of : ℕ → Data
count_of n = number (unsigned n)
