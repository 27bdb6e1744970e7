-- What words give: keys with their values. This project's own.
use Rattle.std.specs.{Prelude.{ℕ, Bool, List, [], find, Option, is_some, option_map, unwrap_or}, Str.Parse.digits_value}
use Rattle.candidate_order.specs.{Ranges.LimitsValue, declared.pruning.Pruning.Pruning}
use Rattle.collective_spec.specs.{declared.kind.Kind.{Kind, TheVariants.Custom}, Kinds.{word_of, every_kind}}
use Rattle.topology_families.specs.{declared.family_kind.FamilyKind.{FamilyKind, TheVariants.Line}, FamilyWords.{families, family_word}}
use Rattle.command_words.specs.{declared.{command.{JsonWhat.{JsonWhat, TheVariants.Topology}, RootWord.RootWord}, key.Key.Key}, Tables.{named, same_key, what_word, whats}}
use Rattle.command_words.specs.declared.key.Key.TheVariants as key

-- a key, its value as it is written, and the index of its word
pub record Given : Type 0 where
  pub key : Key
  pub text : List ℕ
  pub word : ℕ

abbrev pub given_at : Key → List Given → Option Given
given_at k given = find (λ g. same_key k g.key) given

abbrev pub is_given : Key → List Given → Bool
is_given k given = is_some (given_at k given)

-- ---- the value of a key that is given, and the index of its word; of a key that is lacking any value, since no command is made without the keys that it requires

abbrev pub text_at : Key → List Given → List ℕ
text_at k given = unwrap_or (option_map (λ g. g.text) (given_at k given)) []

abbrev pub word_at : Key → List Given → ℕ
word_at k given = unwrap_or (option_map (λ g. g.word) (given_at k given)) 0

abbrev pub number_at : Key → List Given → ℕ
number_at k given = digits_value 10 (text_at k given)

abbrev pub kind_at : List Given → Kind
kind_at given = unwrap_or (named word_of every_kind (text_at key.Collective given)) Custom

abbrev pub family_at : List Given → FamilyKind
family_at given = unwrap_or (named family_word families (text_at key.Kind given)) Line

abbrev pub what_at : List Given → JsonWhat
what_at given = unwrap_or (named what_word whats (text_at key.What given)) Topology

abbrev pub root_at : List Given → Option RootWord
root_at given = option_map (λ g. record { name = g.text; word = g.word }) (given_at key.Root given)

abbrev pub limits_at : List Given → Pruning → LimitsValue
limits_at given pruning = record { k = number_at key.K given; max_s = number_at key.Steps given; max_c = number_at key.Chunks given; conflicts = number_at key.Conflicts given; pruning = pruning }
