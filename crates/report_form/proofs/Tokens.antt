-- What the checks of tokens took stands there.
use Rattle.std.proofs.{Common.{◌≡◌, ℕ, ◌<◌, ◌^◌, true, List, [], ◌∷◌, ◌++◌, length, drop, Option, Some, Result, Ok, sym, ap, ◌∙◌, subst, arith, decimal, nat_eq, nat_le}, lemmas.Bool.Decides.Decides-eqb}
use Rattle.std.{proofs.lemmas.{Option.same_Some, Bool.{and_parts, not-true, not-false, leb-true, eqb-false}, Slice.Eq.{bytes_eq-Decides, starts_is}}, specs.{List.list_all, Str.Parse.{AllDigits, digits_value}}}
use Rattle.text_lines.{specs.Check.◌>>=◌, proofs.{Checks.{bind_ok, done, need_ok, refuse_ok, ok_is, if_some}, Numbers.{up_to_found, spells, digit_is}}}
use Rattle.topology_text.{specs.{Spelling.name_at, Reading.node_of}, proofs.Links.node_is}
use Rattle.report_form.specs.{declared.fault.ReportCode.ReportCode, Fields.{is_digit, is_number, any_number, next_word, behind_key, fixed_word, next_number, next_node, no_more}}

-- one step that passed, and then the rest
pub pass_then : {A B C : Type 0} (N : A → Type 0) (M : B → Type 0) (r : Result A C) (f : A → Result B C) → ((x : A) → r ≡ Ok x → N x) → ((x : A) → N x → (y : B) → f x ≡ Ok y → M y) → (y : B) → (r >>= f) ≡ Ok y → M y
pass_then N M r f begin later y e = let (x, read, rest) = bind_ok r f y e in later x (begin x read) y rest

pub pass_done : {A C : Type 0} (N : A → Type 0) (x : A) → N x → (y : A) → done {C = C} x ≡ Ok y → N y
pass_done {A} {C} N x n y e = subst N (ok_is {C = C} x y e) n

-- ---- one token

pub record WordTaken {A : Type 0} (read : List ℕ → Option A) (words : List (List ℕ)) (x : A × List (List ℕ)) : Type 0 where
  pub word : List ℕ
  pub stands : words ≡ word ∷ x.1
  pub read_as : read word ≡ Some x.0

abbrev pub with_rest : {A : Type 0} → List (List ℕ) → A → Result (A × List (List ℕ)) ReportCode
with_rest ws x = Ok (x, ws)

pub word_take : {A : Type 0} (read : List ℕ → Option A) (words : List (List ℕ)) (x : A × List (List ℕ)) → next_word read words ≡ Ok x → WordTaken read words x
word_take {A} read words x e = grind (arith, need_ok, ok_is)

pub fixed_take : (word : List ℕ) (words rest : List (List ℕ)) → fixed_word word words ≡ Ok rest → words ≡ word ∷ rest
fixed_take word words rest e = grind (arith, refuse_ok, bytes_eq-Decides, not-false, ok_is)

pub no_more_take : (words : List (List ℕ)) (u : Unit {0}) → no_more words ≡ Ok u → words ≡ []
no_more_take words u e = grind arith

-- ---- numbers and names

pub number_take : (words : List (List ℕ)) (x : ℕ × List (List ℕ)) → next_number words ≡ Ok x → words ≡ decimal x.0 ∷ x.1
number_take words x e = grind (arith, word_take, up_to_found)

pub node_take : (names words : List (List ℕ)) (x : ℕ × List (List ℕ)) → next_node names words ≡ Ok x → (words ≡ name_at names x.0 ∷ x.1) × (x.0 < length names)
node_take names words x e =
    let t = word_take (node_of names) words x e in
    let (below, named) = node_is names t.word x.0 t.read_as in
    (t.stands ∙ ap (λ w. w ∷ x.1) (sym named), below)

digits_all : (bs : List ℕ) → list_all is_digit bs ≡ true → AllDigits 10 bs
digits_all [] e = tt
digits_all (b ∷ bs) e =
    let parts = and_parts (is_digit b) (list_all is_digit bs) e in
    let range = and_parts (nat_le 48 b) (nat_le b 57) parts.0 in
    let low = leb-true 48 b range.0 in
    let high = leb-true b 57 range.1 in
    (omega (arith, digit_is b low high, low, high), digits_all bs parts.1)

-- a canonical number that is small enough is spelled by its digits
pub canonical : (token : List ℕ) → is_number token ≡ true → digits_value 10 token < 2 ^ 64 → token ≡ decimal (digits_value 10 token)
canonical token e small = grind (arith, spells, digits_all, and_parts, eqb-false, not-true)

pub any_number_is : (token : List ℕ) (n : ℕ) → any_number token ≡ Some n → n < 2 ^ 64 → token ≡ decimal n
any_number_is token n e small = grind (arith, if_some, same_Some, canonical)

-- a key and what stands behind it
pub keyed_is : {A : Type 0} (key : List ℕ) (read : List ℕ → Option A) (w : List ℕ) (x : A) → behind_key key read w ≡ Some x → (w ≡ key ++ drop (length key) w) × (read (drop (length key) w) ≡ Some x)
keyed_is key read w x e = grind (arith, if_some, starts_is, Decides-eqb, nat_eq)
