-- What words give, as the code keeps it.
use Rattle.std.specs.{Prelude.{◌≡◌, ◌&&◌, ℕ, ◌+◌, ◌-◌, ◌≤◌, Bool, true, false, not, List, [], length, map, take, drop, Result}, List.{AllByRecursion, list_all, list_any}}
use Rattle.text_lines.specs.Check.{◌>>=◌}
use Rattle.collective_spec.specs.Kinds.{takes_root}
use Rattle.topology_families.specs.Family.{is_allowed}
use Rattle.command_words.specs.{declared.{command.Command.Command, fault.WordFault.WordFault, given.GivenWord.GivenWord, key.Key.Key, verb.Verb.Verb}, Tables.{key_row, has_key, same_key, Takes, Number}, Words.{fits, is_refused, given_from}}
use Rattle.command_words.specs.{Commands.{command_from, required}, Given.{Given, is_given, kind_at, family_at, number_at}}
use Rattle.command_words.specs.declared.key.Key.TheVariants as key

-- what one word gives, with the bytes of its value
abbrev pub seen : GivenWord → Given
seen given = record { key = given.key; text = given.text.now; word = given.word }

abbrev pub seen_all : List GivenWord → List Given
seen_all given = map seen given

-- what stands in 18 places from this place on
abbrev pub from_place : ℕ → List GivenWord → List GivenWord
from_place first places = take (18 - first) (drop first places)

-- the key takes numbers up to this
abbrev pub IsUpTo : ℕ → Takes → Type 0
IsUpTo greatest takes = (least : ℕ) × (takes ≡ Number least greatest)

-- each value is one that its key takes
abbrev pub AreFit : List Given → Type 0
AreFit given = AllByRecursion (λ x. fits (key_row x.key).1 x.text ≡ true) given

-- one of the first n words gives the key a value that it takes, and that the command does not refuse
pub record IsRight (verb : Verb) (n : ℕ) (k : Key) (x : Given) : Type 0 where
  pub fit : fits (key_row k).1 x.text ≡ true
  pub taken : is_refused verb k x.text ≡ false
  pub place : x.word ≤ n

abbrev pub AreRight : Verb → ℕ → List Given → Type 0
AreRight verb n given = AllByRecursion (λ x. IsRight verb n x.key x) given

-- ---- the checks of what is given

-- a point is named where the command asks for none
abbrev pub has_idle_point : Verb → List Given → Bool
has_idle_point verb given = has_key verb key.Point && is_given key.Point given && not (list_any (same_key key.Point) (required verb given))

-- each key is given that has to be
abbrev pub has_required : Verb → List Given → Bool
has_required verb given = list_all (λ k. is_given k given) (required verb given)

-- a root is named where the collective takes none
abbrev pub has_idle_root : Verb → List Given → Bool
has_idle_root verb given = has_key verb key.Root && is_given key.Root given && not (takes_root (kind_at given))

-- the kind of family does not have the size
abbrev pub has_wrong_size : Verb → List Given → Bool
has_wrong_size verb given = has_key verb key.Size && not (is_allowed (family_at given) (number_at key.Size given))

-- the command of the words behind its name
abbrev pub command_given : Verb → List (List ℕ) → Result Command WordFault
command_given verb words = do
  given ← given_from verb [] 1 words
  command_from verb given (length words + 1)
