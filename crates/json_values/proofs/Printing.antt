-- Values of JSON that are built, and what a name is as a text.
use Rattle.std.proofs.{Common.{◌≡◌, ℕ, zero, suc, ◌+◌, ◌<◌, Bool, true, cond, List, [], ◌∷◌, ◌++◌, map, refl, ap, ◌∙◌, arith, IsUtf8, Result, Ok, Err}, lemmas.{Bool.{and_parts, Decides.nat_tests}, List.map-append}}
use Rattle.std.{proofs.lemmas.{List.FromFn.map-range_with_len_more, Str.IsUtf8-from_ascii}, specs.{List.{list_all, filter, range_with_len}, Str.IsAscii, Result.{IsOk, MatchResult}}}
use Rattle.topology_text.{specs.Names.{is_name_byte, is_name}, proofs.Printed.passing_more}
use Rattle.serde_json.specs.{Data.Data, View.view, declared.value.Value.Value}

-- ---- names

name_byte_small : (b : ℕ) → is_name_byte b ≡ true → b < 128
name_byte_small b h = grind (arith, nat_tests)

all_small : (bytes : List ℕ) → list_all is_name_byte bytes ≡ true → IsAscii bytes
all_small [] h i = omega arith
all_small (b ∷ bytes) h zero = name_byte_small b (and_parts _ _ h).0
all_small (b ∷ bytes) h (suc i) = all_small bytes (and_parts _ _ h).1 i

pub name_utf8 : (bytes : List ℕ) → is_name bytes ≡ true → IsUtf8 bytes
name_utf8 bytes h = IsUtf8-from_ascii bytes (all_small bytes (and_parts _ _ h).1)

-- a result that can be no error
pub ok_by : {A E : Type 0} (U : Type 0) (P : A → Type 0) (Q : E → Type 0) (r : Result A E) → MatchResult r P (λ e. (U → ⊥) × Q e) → U → IsOk r
ok_by U P Q (Ok x) m u = refl
ok_by U P Q (Err e) m u = absurd (m.0 u)

-- ---- lists

-- one more value
pub pushed : (old new : List Value) (v : Value) (ds : List Data) (d : Data) → new ≡ old ++ v ∷ [] → map view old ≡ ds → view v ≡ d → map view new ≡ ds ++ d ∷ []
pushed old new v ds d a b c = ap (map view) a ∙ map-append view old (v ∷ []) ∙ ap (λ l. l ++ view v ∷ []) b ∙ ap (λ x. ds ++ x ∷ []) c

-- what one more number that passes adds
pub passed_more : (f : ℕ → Data) (p : ℕ → Bool) (n : ℕ) → p n ≡ true → map f (filter p (range_with_len 0 (n + 1))) ≡ map f (filter p (range_with_len 0 n)) ++ f n ∷ []
passed_more f p n h = ap (map f) (passing_more p n ∙ ap (λ b. filter p (range_with_len 0 n) ++ cond b (n ∷ []) []) h) ∙ map-append f (filter p (range_with_len 0 n)) (n ∷ [])

pub numbered_more : {A : Type 0} (f : ℕ → A) (n : ℕ) → map f (range_with_len 0 (n + 1)) ≡ map f (range_with_len 0 n) ++ f n ∷ []
numbered_more f n = map-range_with_len_more f 0 n n (omega arith)
