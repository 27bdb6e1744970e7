-- The words of the command line, read from left to right: the first refusal counts. This project's own.
use Rattle.std.specs.{Prelude.{ℕ, ◌+◌, ◌==◌, ◌&&◌, Bool, not, if◌then◌else◌, List, [], ◌∷◌, length, map, bytes_eq, nat_le, Option, Some, None, is_some, Result, Ok, Err}, List.{list_any, before_first, after_first}, Str.Parse.digits_value}
use Rattle.std.specs.{declared.string.String.String, String.string_bytes}
use Rattle.text_lines.specs.{Check.{◌>>=◌, refuse, need}, Number.number_up_to}
use Rattle.topology_text.specs.Names.{is_name}
use Rattle.command_words.specs.declared.{command.Command.Command, fault.{WordCode.{WordCode, TheVariants.{NoCommand, UnknownCommand, UnknownKey, KeyTwice, BadValue}}, WordFault.WordFault}, key.Key.Key, verb.Verb.Verb}
use Rattle.command_words.specs.{Commands.command_from, Tables.{named, verbs, verb_word, verb_row, keys, key_word, key_row, same_key, has_key, Takes, Number, Name, OneOf}, Given.{Given, is_given}}

-- the words, as bytes
abbrev pub texts : {Z : Type 0} → List (String Z) → List (List ℕ)
texts words = map (λ word. string_bytes word) words

-- what stands before the first `=` (61), and what stands behind it
abbrev pub key_and_value : List ℕ → Option (List ℕ × List ℕ)
key_and_value word = if list_any (λ b. b == 61) word then Some (before_first (λ b. b == 61) word, after_first (λ b. b == 61) word) else None

-- the text is such a value; a number is in canonical decimal
abbrev pub fits : Takes → List ℕ → Bool
fits (Number least greatest) text = is_some (number_up_to greatest text) && nat_le least (digits_value 10 text)
fits Name text = is_name text
fits (OneOf words) text = list_any (λ word. bytes_eq word text) words

-- the command does not take the value, which its key may take
abbrev pub is_refused : Verb → Key → List ℕ → Bool
is_refused verb key text = list_any (λ (not_taken : Key × List ℕ). same_key not_taken.0 key && bytes_eq not_taken.1 text) (verb_row verb).refused

-- the checks of the word with this index, behind those that were given
abbrev pub with_word : Verb → List Given → ℕ → List ℕ → Result (List Given) WordCode
with_word verb given index word = do
  parts ← need (key_and_value word) UnknownKey
  key ← need (named key_word keys parts.0) UnknownKey
  _ ← refuse (not (has_key verb key)) UnknownKey
  _ ← refuse (is_given key given) KeyTwice
  _ ← refuse (not (fits (key_row key).1 parts.1)) BadValue
  _ ← refuse (is_refused verb key parts.1) BadValue
  Ok (record { key = key; text = parts.1; word = index } ∷ given)

-- the code with the index of its word
abbrev pub at_word : {A : Type 0} → ℕ → Result A WordCode → Result A WordFault
at_word index (Ok x) = Ok x
at_word index (Err code) = Err (record { code = code; word = index })

-- what the words give that stand from this index on
abbrev pub given_from : Verb → List Given → ℕ → List (List ℕ) → Result (List Given) WordFault
given_from verb given index [] = Ok given
given_from verb given index (word ∷ words) = do
  more ← at_word index (with_word verb given index word)
  given_from verb more (index + 1) words

-- the command that the words are
unfoldable pub command_of : List (List ℕ) → Result Command WordFault
command_of [] = Err (record { code = NoCommand; word = 0 })
command_of (first ∷ words) = do
  verb ← need (named verb_word verbs first) (record { code = UnknownCommand; word = 0 })
  given ← given_from verb [] 1 words
  command_from verb given (length words + 1)
