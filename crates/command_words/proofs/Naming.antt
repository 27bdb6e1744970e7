-- Words found among the names of values.
use Rattle.std.proofs.{Common.{◌≡◌, ◌≢◌, ◌||◌, sym, refl, ℕ, true, false, cond, List, [], ◌∷◌, Option, Some, None, IfSome, is_some, map, bytes_eq, subst}, lemmas.Option.none-some}
use Rattle.std.specs.{List.{AllByRecursion, list_any}, Cmp.Lexicographic.bytes_decides}
use Rattle.collective_spec.specs.{declared.kind.Kind.{Kind, TheVariants.Broadcast}, Kinds.{word_of, every_kind}}
use Rattle.command_words.specs.Tables.{named}

-- one of the names is the text where a value has it
pub any_named : {V : Type 0} (name : V → List ℕ) (values : List V) (text : List ℕ) → list_any (λ w. bytes_eq w text) (map name values) ≡ is_some (named name values text)
any_named name [] text = refl
any_named name (v ∷ vs) text = elim (bytes_eq (name v) text) as (λ b. (b || list_any (λ w. bytes_eq w text) (map name vs)) ≡ is_some (cond b (Some v) (named name vs text))) [ true ↦ refl | false ↦ any_named name vs text ]

-- no value has a word that none is named by
pub none_named : {V : Type 0} (name : V → List ℕ) (values : List V) (word : List ℕ) → AllByRecursion (λ v. word ≢ name v) values → None ≡ named name values word
none_named name [] word others = refl
none_named name (v ∷ vs) word others =
    elim (bytes_eq (name v) word) as (λ b. bytes_eq (name v) word ≡ b → None ≡ cond b (Some v) (named name vs word))
    [ true ↦ (λ e. absurd (others.0 (sym ((bytes_decides (name v) word).0 e)))) | false ↦ (λ _. none_named name vs word others.1) ] refl

-- each kind of collective is found by its word
pub kind_found : (kind : Kind) → named word_of every_kind (word_of kind) ≡ Some kind
kind_found Broadcast = refl
kind_found _ = refl

-- what is found by the word that each kind has is what the table says
pub kind_named : (word : List ℕ) (result : Option Kind) → IfSome result (λ kind. word_of kind ≡ word) → ((kind : Kind) → word_of kind ≡ word → result ≡ Some kind) → result ≡ named word_of every_kind word
kind_named word (Some kind) found known = subst (λ w. Some kind ≡ named word_of every_kind w) found (sym (kind_found kind))
kind_named word None found known = none_named word_of every_kind word (each every_kind)
  where
    each : (kinds : List Kind) → AllByRecursion (λ kind. word ≢ word_of kind) kinds
    each [] = tt
    each (kind ∷ kinds) = (λ e. none-some kind (known kind (sym e)), each kinds)
