-- A value has no more values in it than its text has bytes.
use Rattle.std.proofs.Common.{◌≡◌, ℕ, suc, ◌+◌, ◌≤◌, Bool, true, false, List, [], ◌∷◌, length, Option, Some, None, option_map, option_and_then, Ordering, Less, Equal, Greater, refl, ap, subst, ◌∙◌, arith, length-append, true≢false, sym, append-nil, if◌then◌else◌}
use Rattle.std.specs.{Prelude.⊤, Ordering.match_ordering, Str.is_utf8}
use Rattle.json.specs.Token.{Token, begin_object, end_object, begin_array, end_array, key, string, number, boolean, null, bad}
use Rattle.json.specs.Lex.{Lexeme, token, comma, colon, Class, quote, backslash, operator, space, other, class, Mode, between, in_word, in_string, in_escape, lex_byte, lex, Place, fresh, after_value, after_comma, after_key, begins_colon, may_begin, may_close, if_allowed, place_token, punctuate, tokens}
use Rattle.json.proofs.Unique.Spelling.{value-json_tokens_back}
use Rattle.json.specs.Json as json
use Rattle.json.specs.Tree as tree
use Rattle.serde_json.specs.Data as values
use Rattle.serde_json.specs.{Data.{Data, Members, put}, Read.{number_of, of_json, of_items, of_members, max_depth, read}}
use Rattle.json_values.specs.{Json.value_of, Size.{size, items_size, members_size}}

-- ---- a text has no more lexemes than bytes, and no more tokens than lexemes

lexeme : (m : Mode) (c : Class) (x : ℕ) (xs : List ℕ) (n : ℕ) (k : Mode → List Lexeme) → ((next : Mode) → length (k next) ≤ n) → length (lex_byte m c x xs k) ≤ suc n
lexeme between quote x xs n k h = omega (arith, h in_string)
lexeme between backslash x xs n k h = omega (arith, h in_word)
lexeme between operator x xs n k h = omega (arith, h between)
lexeme between space x xs n k h = omega (arith, h between)
lexeme between other x xs n k h = omega (arith, h in_word)
lexeme in_word quote x xs n k h = omega (arith, h in_word)
lexeme in_word backslash x xs n k h = omega (arith, h in_word)
lexeme in_word operator x xs n k h = omega (arith, h between)
lexeme in_word space x xs n k h = omega (arith, h between)
lexeme in_word other x xs n k h = omega (arith, h in_word)
lexeme in_string quote x xs n k h = omega (arith, h between)
lexeme in_string backslash x xs n k h = omega (arith, h in_escape)
lexeme in_string operator x xs n k h = omega (arith, h in_string)
lexeme in_string space x xs n k h = omega (arith, h in_string)
lexeme in_string other x xs n k h = omega (arith, h in_string)
lexeme in_escape c x xs n k h = omega (arith, h in_string)

lexemes : (m : Mode) (text : List ℕ) → length (lex m text) ≤ length text
unfolding lex
lexemes m [] = omega arith
lexemes m (x ∷ xs) = lexeme m (class x) x xs (length xs) (λ next. lex next xs) (λ next. lexemes next xs)

-- one token more than lexemes where something is owed
abbrev owed : Place → ℕ
owed fresh = 0
owed after_value = 0
owed after_comma = 1
owed after_key = 1

allowed : (b : Bool) (t : Token) (k : Place → List Token) (next : Place) (n : ℕ) → length (k next) ≤ n → length (if_allowed b t k next) ≤ suc n
allowed true t k next n h = omega arith
allowed false t k next n h = omega arith

placed : (p : Place) (t : Token) (b : Bool) (k : Place → List Token) (n : ℕ) → length (k fresh) ≤ n → length (k after_value) ≤ n → (b ≡ true → length (k after_key) ≤ n) → length (place_token p t b k) ≤ suc n
placed p begin_object b k n f v a = allowed (may_begin p) begin_object k fresh n f
placed p end_object b k n f v a = allowed (may_close p) end_object k after_value n v
placed p begin_array b k n f v a = allowed (may_begin p) begin_array k fresh n f
placed p end_array b k n f v a = allowed (may_close p) end_array k after_value n v
placed p (key s) b k n f v a = omega arith
placed p (string s) true k n f v a = allowed (may_begin p) (key s) k after_key n (a refl)
placed p (string s) false k n f v a = allowed (may_begin p) (string s) k after_value n v
placed p (number s) b k n f v a = allowed (may_begin p) (number s) k after_value n v
placed p (boolean c) b k n f v a = allowed (may_begin p) (boolean c) k after_value n v
placed p null b k n f v a = allowed (may_begin p) null k after_value n v
placed p bad b k n f v a = omega arith

mutual
  unfolding punctuate

  punctuated : (p : Place) (ls : List Lexeme) → length (punctuate p ls) ≤ length ls + owed p
  punctuated fresh [] = omega arith
  punctuated after_value [] = omega arith
  punctuated after_comma [] = omega arith
  punctuated after_key [] = omega arith
  punctuated p (token t ∷ ls) = omega (arith, placed p t (begins_colon ls) (λ next. punctuate next ls) (length ls) (omega (arith, punctuated fresh ls)) (omega (arith, punctuated after_value ls)) (behind_key ls))
  punctuated fresh (comma ∷ ls) = omega arith
  punctuated after_value (comma ∷ ls) = omega (arith, punctuated after_comma ls)
  punctuated after_comma (comma ∷ ls) = omega arith
  punctuated after_key (comma ∷ ls) = omega arith
  punctuated fresh (colon ∷ ls) = omega arith
  punctuated after_value (colon ∷ ls) = omega arith
  punctuated after_comma (colon ∷ ls) = omega arith
  punctuated after_key (colon ∷ ls) = omega (arith, punctuated fresh ls)

  behind_key : (ls : List Lexeme) → begins_colon ls ≡ true → length (punctuate after_key ls) ≤ length ls
  behind_key [] h = absurd (true≢false (sym h))
  behind_key (token t ∷ ls) h = absurd (true≢false (sym h))
  behind_key (comma ∷ ls) h = absurd (true≢false (sym h))
  behind_key (colon ∷ ls) h = omega (arith, punctuated fresh ls)

counted : (text : List ℕ) → length (tokens text) ≤ length text
counted text = omega (arith, punctuated fresh (lex between text), lexemes between text)

-- ---- a value has no more values in it than tokens; a member whose key comes again replaces the earlier one

abbrev AtMost : {A : Type 0} → (A → ℕ) → ℕ → Option A → Type 0
AtMost f n None = ⊤
AtMost f n (Some a) = f a ≤ n

of_map : {A B : Type 0} (f : A → ℕ) (g : B → ℕ) (m n : ℕ) (h : A → B) → ((a : A) → f a ≤ m → g (h a) ≤ n) → (o : Option A) → AtMost f m o → AtMost g n (option_map h o)
of_map f g m n h k None x = tt
of_map f g m n h k (Some a) x = k a x

of_then : {A B : Type 0} (f : A → ℕ) (g : B → ℕ) (m n : ℕ) (h : A → Option B) → ((a : A) → f a ≤ m → AtMost g n (h a)) → (o : Option A) → AtMost f m o → AtMost g n (option_and_then h o)
of_then f g m n h k None x = tt
of_then f g m n h k (Some a) x = k a x

one_of : (o : Ordering) (a b c : Members) (n : ℕ) → members_size a ≤ n → members_size b ≤ n → members_size c ≤ n → members_size (match_ordering o a b c) ≤ n
one_of Less a b c n p q r = p
one_of Equal a b c n p q r = q
one_of Greater a b c n p q r = r

size_put : (k : List ℕ) (d : Data) (ms : Members) → members_size (put k d ms) ≤ size d + members_size ms
size_put k d values.no_members = omega arith
size_put k d (values.member l e ms) =
    one_of _ (values.member k d (values.member l e ms)) (values.member l d ms) (values.member l e (put k d ms)) (size d + (size e + members_size ms)) (omega arith) (omega arith) (omega (arith, size_put k d ms))

some_number : (o : Option values.Num) → AtMost (λ _. 0) 0 o
some_number None = tt
some_number (Some n) = omega arith

mutual
  size_of_json : (j : json.Json) → AtMost size (length (tree.json_tokens j)) (of_json j)
  size_of_json json.null = omega arith
  size_of_json (json.boolean b) = omega arith
  size_of_json (json.number s) = of_map (λ _. 0) size 0 1 values.number (λ a x. omega arith) (number_of s) (some_number _)
  size_of_json (json.string s) = omega arith
  size_of_json (json.array js) = of_map items_size size (length (tree.items_tokens js)) (suc (length (tree.items_tokens js))) values.array (λ a x. omega arith) _ (size_of_items js)
  size_of_json (json.object ms) = of_map members_size size (length (tree.members_tokens ms)) (suc (length (tree.members_tokens ms))) values.object (λ a x. omega arith) _ (size_of_members ms values.no_members (length (tree.members_tokens ms)) (omega arith))

  size_of_items : (js : json.Items) → AtMost items_size (length (tree.items_tokens js)) (of_items js)
  size_of_items json.no_items = omega arith
  size_of_items (json.item j js) =
      of_then size items_size (length (tree.json_tokens j)) (length (tree.items_tokens (json.item j js))) _
      (λ d x. of_map items_size items_size (length (tree.items_tokens js)) (length (tree.items_tokens (json.item j js))) (values.item d) (λ ds y. omega (arith, length-append (tree.json_tokens j) (tree.items_tokens js))) _ (size_of_items js)) _ (size_of_json j)

  size_of_members : (ms : json.Members) (found : Members) (n : ℕ) → length (tree.members_tokens ms) + members_size found ≤ n → AtMost members_size n (of_members ms found)
  size_of_members json.no_members found n h = omega arith
  size_of_members (json.member name j ms) found n h =
      of_then size members_size (length (tree.json_tokens j)) n _ (λ d x. size_of_members ms (put name d found) n (omega (arith, size_put name d found, length-append (tree.json_tokens j) (tree.members_tokens ms)))) _ (size_of_json j)

-- ---- the value that a text is

-- where nothing follows what was read
last : (ts : List Token) (o : Option (json.Json × List Token)) → json.value max_depth ts ≡ o → AtMost size (length ts) (option_and_then of_json (option_and_then (λ p. json.if_last p.0 p.1) o))
last ts None is = tt
last ts (Some (j, t ∷ r)) is = tt
last ts (Some (j, [])) is =
    let spelled = value-json_tokens_back max_depth ts [] j is ∙ append-nil (tree.json_tokens j) in
    subst (λ n. AtMost size n (of_json j)) (sym (ap length spelled)) (size_of_json j)

pub size_of_read : (text : List ℕ) (d : Data) → read text ≡ Some d → size d ≤ length text
size_of_read text d e =
    let sized : size d ≤ length (tokens text) = subst (AtMost size (length (tokens text))) e (last (tokens text) _ refl) in
    omega (arith, counted text)

if_utf8 : (b : Bool) (text : List ℕ) (d : Data) → (if b then read text else None) ≡ Some d → size d ≤ length text
if_utf8 true text d e = size_of_read text d e
if_utf8 false text d e = absurd cc

pub size_of_value : (bytes : List ℕ) (d : Data) → value_of bytes ≡ Some d → size d ≤ length bytes
size_of_value bytes d e = if_utf8 (is_utf8 bytes) bytes d e
