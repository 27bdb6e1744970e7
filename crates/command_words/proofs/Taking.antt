-- Words taken one by one: each gives a key that none before it gave.
use Rattle.std.proofs.Common.{◌≡◌, ◌∙◌, ◌<◌, ◌≤◌, ◌+◌, ◌-◌, ℕ, suc, true, false, cond, sym, ap, refl, arith, List, [], ◌∷◌, length, get_or, drop, map, slice_set, is_some, Some, Result, Err}
use Rattle.std.{specs.{List.{AllByRecursion, IsDistinct, list_any}, declared.string.String.String, String.string_bytes}, proofs.{Math.Seq.drop-length, lemmas.{List.{drop_more, drop-set, get_or-map, length-drop, length-map, length-take-le}, Cmp.{nat_list_eq_equiv, on_equiv}, Map.{Keys.{IsDistinct-cons, IsDistinct-from_apart}, Made.length-le_from_is_member}}}}
use Rattle.text_lines.specs.Check.{◌>>=◌}
use Rattle.command_words.specs.declared.{fault.{WordCode.WordCode, WordFault.WordFault}, given.GivenWord.GivenWord, key.Key.Key, verb.Verb.Verb}
use Rattle.command_words.specs.{Tables.{keys, key_word, same_key}, Words.{texts, at_word, with_word, given_from}, Commands.command_from, inner.Seen.{command_given, from_place, seen, seen_all}}
use Rattle.command_words.specs.declared.key.Key.TheVariants as key
use Rattle.command_words.specs.Given.{Given, given_at, is_given}

-- what is read of the words that are left is what is read of the first of them, and then of the others
pub word_read : {Z : Type 0} (verb : Verb) (g : List Given) (index : ℕ) (words : List (String Z)) (k : ℕ) (word : String Z) (text : List ℕ) (read : Result (List Given) WordCode)
    → k < length words → word ≡ get_or words k word → text ≡ string_bytes word → index ≡ k + 1 → with_word verb g index text ≡ read
    → (at_word index read >>= (λ more. given_from verb more (k + 1 + 1) (drop (k + 1) (texts words)))) ≡ given_from verb g (k + 1) (drop k (texts words))
word_read {Z} verb g index words k word text read inside same bytes at taken =
    let bytes_of = λ (w : String Z). string_bytes w in
    let first : get_or (texts words) k text ≡ text = get_or-map bytes_of words k word text inside ∙ ap bytes_of (sym same) ∙ sym bytes in
    let here : drop k (texts words) ≡ text ∷ drop (k + 1) (texts words) = drop_more (texts words) k text (omega (arith, inside, length-map words bytes_of)) ∙ ap (λ t. t ∷ drop (k + 1) (texts words)) first in
    rw (here, ← at, ← taken) refl

-- a refusal of a word is one of all words
pub word_refused : (verb : Verb) (words : List (List ℕ)) (fault : WordFault) → Err fault ≡ given_from verb [] 1 words → Err fault ≡ command_given verb words
word_refused verb words fault e = ap (λ r. r >>= (λ g. command_from verb g (length words + 1))) e

-- what all words gave makes the command
pub words_read : {Z : Type 0} (verb : Verb) (g : List Given) (words : List (String Z)) (k count : ℕ) → k ≡ length words → count ≡ k + 1 → given_from verb g (k + 1) (drop k (texts words)) ≡ given_from verb [] 1 (texts words) → command_from verb g count ≡ command_given verb (texts words)
words_read verb g words k count all behind read =
    let long : length (texts words) ≡ length words = length-map words (λ word. string_bytes word) in
    let none : drop k (texts words) ≡ [] = ap (λ i. drop i (texts words)) (all ∙ sym long) ∙ drop-length (texts words) in
    let counted : count ≡ length (texts words) + 1 = omega (arith, behind, all, long) in
    ap (command_from verb g) counted ∙ ap (λ r. r >>= (λ more. command_from verb more (length (texts words) + 1))) (sym (ap (given_from verb g (k + 1)) none) ∙ read)

-- ---- the places of what is given

-- one more, in front of the others
pub one_more : (places : List GivenWord) (first : ℕ) (x : GivenWord) → 1 ≤ first → first ≤ 18 → length places ≡ 18 → from_place (first - 1) (slice_set places (first - 1) x) ≡ x ∷ from_place first places
one_more places first x some few long =
    let front : drop (first - 1) (slice_set places (first - 1) x) ≡ x ∷ drop (first - 1 + 1) places = drop-set places (first - 1) x (omega (arith, long)) in
    let next : first - 1 + 1 ≡ first = omega arith in
    let room : 18 - (first - 1) ≡ suc (18 - first) = omega arith in
    rw (front, room, next) refl

-- a key that is not given is none of those that are
other_keys : (k : Key) (xs : List GivenWord) → is_given k (seen_all xs) ≡ false → AllByRecursion (λ j. same_key k j ≡ false) (map (λ x. x.key) xs)
other_keys k [] none = tt
other_keys k (x ∷ xs) none =
    elim (same_key k x.key) as (λ b. same_key k x.key ≡ b → is_some (cond b (Some (seen x)) (given_at k (seen_all xs))) ≡ false → AllByRecursion (λ j. same_key k j ≡ false) (map (λ y. y.key) (x ∷ xs)))
    [ true ↦ (λ _ e. absurd (cc)) | false ↦ (λ other e. (other, other_keys k xs e)) ] refl none

in_keys : (k : Key) → list_any (same_key k) keys ≡ true
in_keys key.Collective = refl
in_keys _ = refl

-- keys that differ, where there is none, and where there is one more
pub no_keys : IsDistinct same_key []
no_keys = IsDistinct-from_apart same_key [] (λ i j d before inside. absurd (omega arith))

pub more_keys : (k : Key) (xs : List GivenWord) → is_given k (seen_all xs) ≡ false → IsDistinct same_key (map (λ x. x.key) xs) → IsDistinct same_key (k ∷ map (λ x. x.key) xs)
more_keys k xs none distinct = IsDistinct-cons same_key k (map (λ x. x.key) xs) (other_keys k xs none) distinct

-- there are 18 keys, so a key that is not given has a place
pub has_place : (places : List GivenWord) (first : ℕ) (k : Key) → first ≤ 18 → length places ≡ 18 → is_given k (seen_all (from_place first places)) ≡ false → IsDistinct same_key (map (λ x. x.key) (from_place first places)) → 1 ≤ first
has_place places first k within long none distinct =
    let few = length-le_from_is_member (on_equiv key_word nat_list_eq_equiv) _ keys (more_keys k (from_place first places) none distinct) (λ q _. in_keys q) in
    let kept : length (from_place first places) ≡ 18 - first = length-take-le (18 - first) (drop first places) (omega (arith, length-drop first places, long)) in
    omega (arith, few, kept, within, length-map (from_place first places) (λ x. x.key))
