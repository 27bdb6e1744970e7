-- Keys looked up in what words give.
use Rattle.std.proofs.Common.{◌≡◌, ◌∙◌, ◌&&◌, ℕ, Bool, true, false, cond, if◌then◌else◌, bytes_eq, decimal, sym, ap, refl, subst, List, [], ◌∷◌, Some, None, IfSome, option_map, is_some, unwrap_or, nat_le, ◌≤◌, arith}
use Rattle.std.{proofs.lemmas.Bool.Decides.nat_tests, specs.{List.AllByRecursion, Cmp.Lexicographic.bytes_decides, Str.Parse.digits_value}}
use Rattle.text_lines.specs.Number.{number_up_to}
use Rattle.topology_text.specs.Names.{name_of}
use Rattle.command_words.specs.{declared.{key.Key.Key, verb.Verb.Verb}, Tables.{named, keys, key_word, key_row, same_key, Number}, Words.fits, inner.Seen.{AreFit, AreRight, IsRight, IsUpTo}, Given.{Given, given_at, word_at}}
use Rattle.command_words.specs.declared.key.Key.TheVariants as key

-- each key is found by its word
key_found : (k : Key) → named key_word keys (key_word k) ≡ Some k
key_found key.Collective = refl
key_found _ = refl

-- keys of one word are one
pub key_same : (j k : Key) → same_key j k ≡ true → j ≡ k
key_same j k e = let same : Some j ≡ Some k = sym (key_found j) ∙ ap (named key_word keys) ((bytes_decides (key_word j) (key_word k)).0 e) ∙ key_found k in cc

-- what holds of each key and what gives it holds of a key that is looked up
pub found : (P : Key → Given → Type 0) (k : Key) (g : List Given) → AllByRecursion (λ x. P x.key x) g → IfSome (given_at k g) (P k)
found P k [] each = tt
found P k (x ∷ g) each =
    elim (same_key k x.key) as (λ b. same_key k x.key ≡ b → IfSome (cond b (Some x) (given_at k g)) (P k))
    [ true ↦ (λ e. subst (λ j. P j x) (sym (key_same k x.key e)) each.0) | false ↦ (λ _. found P k g each.1) ] refl

-- the value of a key is one that it takes
fits_at : (k : Key) (g : List Given) (x : Given) → AreFit g → Some x ≡ given_at k g → fits (key_row k).1 x.text ≡ true
fits_at k g x fit e = subst (λ o. IfSome o (λ y. fits (key_row k).1 y.text ≡ true)) (sym e) (found (λ j y. fits (key_row j).1 y.text ≡ true) k g fit)

fit_number : (least d : ℕ) (b m : Bool) → (is_some (if b && m then Some d else None) && nat_le least d) ≡ true → ((if b && m then Some d else None) ≡ Some d) × (m ≡ true) × (nat_le least d ≡ true)
fit_number least d true true e = (refl, refl, e)
fit_number least d true false e = absurd (cc)
fit_number least d false m e = absurd (cc)

-- a number that fits is read, and it is in the range
pub number_fits : (least greatest : ℕ) (text : List ℕ) → fits (Number least greatest) text ≡ true → (number_up_to greatest text ≡ Some (digits_value 10 text)) × (least ≤ digits_value 10 text) × (digits_value 10 text ≤ greatest)
number_fits least greatest text fit =
    let tests = fit_number least (digits_value 10 text) (bytes_eq text (decimal (digits_value 10 text))) (nat_le (digits_value 10 text) greatest) fit in
    let below = tests.1 in
    let above = tests.2 in
    (tests.0, grind (arith, nat_tests), grind (arith, nat_tests))

-- the number of a key is read
pub number_read : (k : Key) (g : List Given) (x : Given) (greatest : ℕ) → AreFit g → IsUpTo greatest (key_row k).1 → Some x ≡ given_at k g → number_up_to greatest x.text ≡ option_map (λ y. digits_value 10 y.text) (given_at k g)
number_read k g x greatest fit up e = rw (← e) (number_fits up.0 greatest x.text (subst (λ t. fits t x.text ≡ true) up.1 (fits_at k g x fit e))).0

-- so is the name of a root
pub name_read : (g : List Given) (x : Given) → AreFit g → Some x ≡ given_at key.Root g → name_of x.text ≡ Some x.text
name_read g x fit e = rw (fits_at key.Root g x fit e) refl

-- values that are right are fit
pub right_fit : (verb : Verb) (n : ℕ) (g : List Given) → AreRight verb n g → AreFit g
right_fit verb n [] right = tt
right_fit verb n (x ∷ g) right = (right.0.fit, right_fit verb n g right.1)

-- a key is given in one of the first words
pub word_within : (verb : Verb) (n : ℕ) (k : Key) (g : List Given) → AreRight verb n g → word_at k g ≤ n
word_within verb n k g right = elim (given_at k g) as (λ o. IfSome o (IsRight verb n k) → unwrap_or (option_map (λ x. x.word) o) 0 ≤ n) [ None ↦ (λ _. omega arith) | Some x ↦ (λ r. r.place) ] (found (IsRight verb n) k g right)
