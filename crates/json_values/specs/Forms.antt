-- Forms of JSON: which value is printed of something, and which tokens or lines a value of the form stands for. `None` is a value that does not have it.
use Rattle.std.specs.{Prelude.{ℕ, ◌&&◌, Bool, true, false, if◌then◌else◌, List, [], ◌∷◌, ◌++◌, map, Option, Some, None, option_map, unwrap_or, slice_index_or, bytes_eq, decimal}, List.list_any}
use Rattle.topology_text.specs.Names.{name_of}
use Rattle.serde_json.specs.{Data.{Data, null, number, unsigned, string, array, object, Items, no_items, item, Members, no_members, member, put}, View.items_of, Find.{as_number, as_u64, as_str, as_array, as_object, get}}
use Rattle.json_values.specs.Shape.{◌>>=◌, ◌⊕◌, one, headed}

-- a form of the values X, which stand for tokens or for lines A
pub record Form (A X : Type 0) : Type 0 where
  pub json : X → Data
  pub read : Data → Option (List A)

-- a whole number from 0 on
abbrev pub count : Form (List ℕ) ℕ
count = record { json = λ n. number (unsigned n); read = λ d. one (option_map decimal (as_number d >>= as_u64)) }

abbrev pub name : Form (List ℕ) (List ℕ)
name = record { json = string; read = λ d. one (as_str d >>= name_of) }

-- one of these words
abbrev pub word : List (List ℕ) → Form (List ℕ) (List ℕ)
word words = record { json = string; read = λ d. one (as_str d >>= λ w. if list_any (bytes_eq w) words then Some w else None) }

-- what a part of x has
abbrev pub via : {A X Y : Type 0} → (X → Y) → Form A Y → Form A X
via part form = record { json = λ x. form.json (part x); read = form.read }

-- the tokens with this key and the sign `=` before each
abbrev pub with_key : {X : Type 0} → List ℕ → Form (List ℕ) X → Form (List ℕ) X
with_key key form = record { json = form.json; read = λ d. option_map (map (λ w. key ++ 61 ∷ w)) (form.read d) }

-- a line of this word and of the tokens behind it
abbrev pub lined : {X : Type 0} → List ℕ → Form (List ℕ) X → Form (List (List ℕ)) X
lined first form = record { json = form.json; read = λ d. one (headed first (form.read d)) }

-- ---- lists

abbrev pub each_read : {A : Type 0} → (Data → Option (List A)) → Items → Option (List A)
each_read read no_items = Some []
each_read read (item d ds) = read d ⊕ each_read read ds

-- of values of this form
abbrev pub each : {A X : Type 0} → Form A X → Form A (List X)
each form = record { json = λ xs. array (items_of (map form.json xs)); read = λ d. as_array d >>= each_read form.read }

abbrev pub row_read : {A : Type 0} → List (Data → Option (List A)) → Items → Option (List A)
row_read [] no_items = Some []
row_read (read ∷ reads) (item d ds) = read d ⊕ row_read reads ds
row_read _ _ = None

-- of one value of each of these forms
abbrev pub row : {A X : Type 0} → List (Form A X) → Form A X
row {A = A} {X = X} forms = record { json = λ x. array (items_of (map (λ (form : Form A X). form.json x) forms)); read = λ d. as_array d >>= row_read (map (λ (form : Form A X). form.read) forms) }

-- ---- objects

-- members of an object: how they are put into it, which keys are to be in it (each with null), and what it stands for by them
pub record Part (A X : Type 0) : Type 0 where
  pub puts : X → Members → Members
  pub keys : Data → Members → Members
  pub read : Data → Option (List A)

-- what is seen of it is no member
abbrev pub seen : {A X : Type 0} → (Data → Option (List A)) → Part A X
seen read = record { puts = λ x ms. ms; keys = λ d ms. ms; read = read }

-- the member of this key, where x has it; in a value it is where it is due
abbrev pub at_if : {A X Y : Type 0} → (Data → Bool) → List ℕ → (X → Option Y) → Form A Y → Part A X
at_if due key part form = record {
  puts = λ x ms. unwrap_or (option_map (λ y. put key (form.json y) ms) (part x)) ms;
  keys = λ d ms. if due d then put key null ms else ms;
  read = λ d. if due d then get key d >>= form.read else Some [];
}

abbrev pub at : {A X Y : Type 0} → List ℕ → (X → Y) → Form A Y → Part A X
at key part form = at_if (λ d. true) key (λ x. Some (part x)) form

-- both
infixr 20 ◌&◌
abbrev pub ◌&◌ : {A X : Type 0} → Part A X → Part A X → Part A X
p & q = record { puts = λ x ms. p.puts x (q.puts x ms); keys = λ d ms. p.keys d (q.keys d ms); read = λ d. p.read d ⊕ q.read d }

-- a line of this word and of the tokens behind it
abbrev pub line_of : {X : Type 0} → List ℕ → Part (List ℕ) X → Part (List (List ℕ)) X
line_of first p = record { puts = p.puts; keys = p.keys; read = λ d. one (headed first (p.read d)) }

abbrev pub same_keys : Members → Members → Bool
same_keys no_members no_members = true
same_keys (member k _ ks) (member l _ ms) = bytes_eq k l && same_keys ks ms
same_keys _ _ = false

-- the object of exactly these members, by ascending keys
abbrev pub fields : {A X : Type 0} → Part A X → Form A X
fields p = record { json = λ x. object (p.puts x no_members); read = λ d. as_object d >>= λ ms. if same_keys (p.keys d no_members) ms then p.read d else None }

-- what the value at the key stands for is this word
abbrev pub says_word : List ℕ → (Data → Option (List (List ℕ))) → List ℕ → Data → Bool
says_word key read w d = unwrap_or (option_map (λ ws. bytes_eq (slice_index_or ws 0 []) w) (get key d >>= read)) false
