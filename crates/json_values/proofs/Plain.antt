-- Values of numbers that are whole and below 2^64, of texts in UTF-8, of lists, and of objects with ascending keys: what is printed of them is read back.
use Rattle.std.proofs.Common.{◌≡◌, ℕ, suc, ◌^◌, ◌<◌, ◌≤◌, ◌||◌, Bool, true, false, List, [], ◌∷◌, ◌++◌, map, Option, Some, option_map, Ok, option_and_then, decimal, refl, sym, ap, ap₂, ◌∙◌, append-nil, arith, IsUtf8, All}
use Rattle.std.{proofs.lemmas.{List.Elements.{All-head, All-tail}, Str.{IsUtf8-append, IsUtf8-nil, IsUtf8-from_ascii}, Fmt.IsAscii-decimal}, specs.Prelude.⊤}
use Rattle.json.specs.Json as json
use Rattle.json.{specs.{Lex.tokens, Print.quoted}, proofs.Printed.{Decimals.IsNumber-decimal, Tokens.tokens-print, Trees.{ArePrintable-json_tokens, value-json_tokens}, Utf8.{IsUtf8-are_ascii, IsUtf8-quoted, are_ascii}}}
use Rattle.json.specs.Tree as tree
use Rattle.serde_json.specs.{Data.{Data, number, unsigned, string, array, object, Items, no_items, item, Members, no_members, member, put}, Read.{of_json, of_items, of_members, read, max_depth}, View.items_of}
use Rattle.serde_json.{specs.Written.{outline, items_outline, members_outline, compact_text, items_text, members_text, comma_if, has_float, items_have_float, members_have_float}, proofs.{Numbers.number_of-decimal, Texts.print-outline}}
use Rattle.json_values.{specs.{Json.printed, Answer.text_of_json}, proofs.{Blank.same_value, Standing.text_given, Values.value_is}}

-- it nests at most n deep, and what is printed of it is read back
pub record Plain (n : ℕ) (d : Data) : Type 0 where
  pub reads : of_json (outline d) ≡ Some d
  pub numbers : tree.HasNumbers (outline d)
  pub flat : tree.depth (outline d) ≤ n
  pub utf8 : IsUtf8 (compact_text d)
  pub whole : has_float d ≡ false

record PlainItems (n : ℕ) (ds : Items) : Type 0 where
  reads : of_items (items_outline ds) ≡ Some ds
  numbers : tree.ItemsHaveNumbers (items_outline ds)
  flat : tree.items_depth (items_outline ds) ≤ n
  utf8 : (later : Bool) → IsUtf8 (items_text later ds)
  whole : items_have_float ds ≡ false

-- these members, put behind others
abbrev pub put_all : Members → Members → Members
put_all old no_members = old
put_all old (member k d ms) = put_all (put k d old) ms

record PlainMembers (n : ℕ) (ms : Members) : Type 0 where
  reads : (old : Members) → of_members (members_outline ms) old ≡ Some (put_all old ms)
  numbers : tree.MembersHaveNumbers (members_outline ms)
  flat : tree.members_depth (members_outline ms) ≤ n
  utf8 : (later : Bool) → IsUtf8 (members_text later ms)
  whole : members_have_float ms ≡ false

comma_utf8 : (later : Bool) → IsUtf8 (comma_if later)
comma_utf8 true = IsUtf8-are_ascii (44 ∷ []) refl
comma_utf8 false = IsUtf8-nil

-- ---- lists

abbrev pub EachItem : ℕ → Items → Type 0
EachItem n no_items = ⊤
EachItem n (item d ds) = Plain n d × EachItem n ds

items_plain : (n : ℕ) (ds : Items) → EachItem n ds → PlainItems n ds
items_plain n no_items h = record { reads = refl; numbers = tt; flat = omega arith; utf8 = λ later. IsUtf8-are_ascii (93 ∷ []) refl; whole = refl }
items_plain n (item d ds) h =
    let rest = items_plain n ds h.1 in
    record {
      reads = ap (option_and_then (λ x. option_map (item x) (of_items (items_outline ds)))) h.0.reads ∙ ap (option_map (item d)) rest.reads;
      numbers = (h.0.numbers, rest.numbers);
      flat = omega (arith, h.0.flat, rest.flat);
      utf8 = λ later. IsUtf8-append (comma_if later) _ (comma_utf8 later) (IsUtf8-append (compact_text d) _ h.0.utf8 (rest.utf8 true));
      whole = ap₂ (λ a b. a || b) h.0.whole rest.whole;
    }

pub plain_array : {n : ℕ} {ds : Items} → EachItem n ds → Plain (suc n) (array ds)
plain_array {n = n} {ds = ds} h =
    let all = items_plain n ds h in
    record { reads = ap (option_map array) all.reads; numbers = all.numbers; flat = omega (arith, all.flat); utf8 = IsUtf8-append (91 ∷ []) _ (IsUtf8-are_ascii (91 ∷ []) refl) (all.utf8 false); whole = all.whole }

each_item : {X : Type 0} (n : ℕ) (make : X → Data) (xs : List X) → All (λ x. Plain n (make x)) xs → EachItem n (items_of (map make xs))
each_item n make [] h = tt
each_item n make (x ∷ xs) h = (All-head (λ y. Plain n (make y)) x xs h, each_item n make xs (All-tail (λ y. Plain n (make y)) x xs h))

pub plain_list : {X : Type 0} {n : ℕ} (make : X → Data) (xs : List X) → All (λ x. Plain n (make x)) xs → Plain (suc n) (array (items_of (map make xs)))
plain_list {n = n} make xs h = plain_array (each_item n make xs h)

-- ---- objects

abbrev pub EachMember : ℕ → Members → Type 0
EachMember n no_members = ⊤
EachMember n (member k d ms) = (are_ascii k ≡ true) × Plain n d × EachMember n ms

members_plain : (n : ℕ) (ms : Members) → EachMember n ms → PlainMembers n ms
members_plain n no_members h = record { reads = λ old. refl; numbers = tt; flat = omega arith; utf8 = λ later. IsUtf8-are_ascii (125 ∷ []) refl; whole = refl }
members_plain n (member k d ms) h =
    let rest = members_plain n ms h.2 in
    record {
      reads = λ old. ap (option_and_then (λ x. of_members (members_outline ms) (put k x old))) h.1.reads ∙ rest.reads (put k d old);
      numbers = (h.1.numbers, rest.numbers);
      flat = omega (arith, h.1.flat, rest.flat);
      utf8 = λ later. IsUtf8-append (comma_if later) _ (comma_utf8 later) (IsUtf8-append (quoted k) _ (IsUtf8-quoted k (IsUtf8-are_ascii k h.0)) (IsUtf8-append (58 ∷ []) _ (IsUtf8-are_ascii (58 ∷ []) refl) (IsUtf8-append (compact_text d) _ h.1.utf8 (rest.utf8 true))));
      whole = ap₂ (λ a b. a || b) h.1.whole rest.whole;
    }

-- the members stand as if they were put in one after another
pub plain_object : {n : ℕ} {ms : Members} → put_all no_members ms ≡ ms → EachMember n ms → Plain (suc n) (object ms)
plain_object {n = n} {ms = ms} order h =
    let all = members_plain n ms h in
    record {
      reads = ap (option_map object) (all.reads no_members ∙ ap Some order);
      numbers = all.numbers;
      flat = omega (arith, all.flat);
      utf8 = IsUtf8-append (123 ∷ []) _ (IsUtf8-are_ascii (123 ∷ []) refl) (all.utf8 false);
      whole = all.whole;
    }

-- ---- numbers and texts

pub plain_count : {k n : ℕ} → n < 2 ^ 64 → Plain k (number (unsigned n))
plain_count {n = n} h = record { reads = ap (option_map number) (number_of-decimal n h); numbers = IsNumber-decimal n h; flat = omega arith; utf8 = IsUtf8-from_ascii (decimal n) (IsAscii-decimal n h); whole = refl }

pub plain_text : {k : ℕ} (s : List ℕ) → IsUtf8 s → Plain k (string s)
plain_text s h = record { reads = refl; numbers = tt; flat = omega arith; utf8 = IsUtf8-quoted s h; whole = refl }

pub plain_word : {k : ℕ} {s : List ℕ} → are_ascii s ≡ true → Plain k (string s)
plain_word {s = s} h = plain_text s (IsUtf8-are_ascii s h)

-- ---- what is printed is read back

pub deeper : {m n : ℕ} {d : Data} → m ≤ n → Plain m d → Plain n d
deeper h k = record { reads = k.reads; numbers = k.numbers; flat = omega (arith, k.flat); utf8 = k.utf8; whole = k.whole }

read_again : {n : ℕ} (d : Data) → Plain n d → n ≤ max_depth → read (compact_text d) ≡ Some d
read_again d h shallow =
    let ts = tree.json_tokens (outline d) in
    let tokens_same = ap tokens (sym (print-outline d)) ∙ tokens-print ts (ArePrintable-json_tokens (outline d) h.numbers) ∙ sym (append-nil ts) in
    ap (λ found. option_and_then of_json (option_and_then (λ p. json.if_last p.0 p.1) found)) (ap (json.value max_depth) tokens_same ∙ value-json_tokens (outline d) max_depth [] (omega (arith, h.flat))) ∙ h.reads

-- the text that what is printed stands for
pub text_back : {n : ℕ} (text : Data → Option (List ℕ)) (d : Data) (found : List ℕ) → Plain n d → n ≤ max_depth → text d ≡ Some found → text_of_json text (printed d) ≡ Ok found
text_back text d found h shallow stands =
    let line_feed = IsUtf8-are_ascii (10 ∷ []) refl in
    text_given text (printed d) d found (value_is (printed d) d (IsUtf8-append (compact_text d) (10 ∷ []) h.utf8 line_feed) (same_value (compact_text d) ∙ read_again d h shallow)) (ap (option_map (λ t. [] ++ t)) stands)

-- what is printed of a value is what is written of it, and a line feed
pub shown_is : {n : ℕ} (v d : Data) (out bytes : List ℕ) → v ≡ d → Plain n d → (has_float v ≡ false → out ≡ compact_text v) → bytes ≡ out ++ 10 ∷ [] → bytes ≡ printed d
shown_is v d out bytes same h writes ended = ended ∙ ap (λ text. text ++ 10 ∷ []) (writes (ap has_float same ∙ h.whole)) ∙ ap printed same
