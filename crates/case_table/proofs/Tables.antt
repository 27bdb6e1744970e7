-- The two look-ups of a table.
use Rattle.std.proofs.{Common.{◌≡◌, ◌≢◌, ℕ, ◌==◌, Bool, false, List, refl, sym, ap, ◌∙◌, Option, Some, None, All, Contains, IfSome, IfNone, Decides, IsTrue, subst, Bor, bytes_eq, find}, lemmas.List.Elements.All-weaker}
use Rattle.std.{proofs.lemmas.{Slice.Eq.bytes_eq-Decides, Bool.{and_parts, false≢true, Decides.Decides-eqb}}, specs.Option.{option_map, option_copied}}
use Rattle.list_laws.proofs.Tests.{find-map}
use Rattle.case_table.{specs.{Rows.{is_one_to_one, value_at, word_at}, Shown.entries, declared.row.Row.Row}, proofs.Finding.{Found, find-Found, find-only}}

ne_from_false : {A : Type 0} (b : Bool) (x y : A) → Decides b (x ≡ y) → b ≡ false → x ≢ y
ne_from_false b x y d e h = false≢true (sym e ∙ d.1 h)

-- the rows in memory and the rows as pairs have the same answers
option_map-map : {X Y Z : Type 0} (g : Y → Z) (f : X → Y) (o : Option X) → option_map g (option_map f o) ≡ option_map (λ x. g (f x)) o
option_map-map g f None = refl
option_map-map g f (Some x) = refl

pub value_shown : (rows : List Row) (table : List (List ℕ × ℕ)) (word : List ℕ) → entries rows ≡ table → option_map (λ row. row.value) (find (λ row. bytes_eq row.word.now word) rows) ≡ value_at table word
value_shown rows table word e =
    rw (← e) (sym (ap (option_map (λ row. row.1)) (find-map (λ row. bytes_eq row.0 word) (λ row. (row.word.now, row.value)) rows) ∙ option_map-map _ _ (find (λ row. bytes_eq row.word.now word) rows)))

pub word_shown : (rows : List Row) (table : List (List ℕ × ℕ)) (value : ℕ) → entries rows ≡ table → option_copied (option_map (λ row. row.word) (find (λ row. row.value == value) rows)) ≡ word_at table value
word_shown rows table value e =
    rw (← e) (option_map-map _ _ (find (λ row. row.value == value) rows) ∙ sym (ap (option_map (λ row. row.0)) (find-map (λ row. row.1 == value) (λ row. (row.word.now, row.value)) rows) ∙ option_map-map _ _ (find (λ row. row.value == value) rows)))

-- the row of an answer
pub value_some : (rows : List (List ℕ × ℕ)) (word : List ℕ) → IfSome (value_at rows word) (λ value. Contains rows (word, value))
value_some rows word = go (find (λ row. bytes_eq row.0 word) rows) (find-Found _ rows)
  where
    go : (r : Option (List ℕ × ℕ)) → Found (λ row. bytes_eq row.0 word) rows r → IfSome (option_map (λ row. row.1) r) (λ value. Contains rows (word, value))
    go None h = tt
    go (Some row) h = subst (λ (w : List ℕ). Contains rows (w, row.1)) ((bytes_eq-Decides row.0 word).0 h.1) h.0

pub value_none : (rows : List (List ℕ × ℕ)) (word : List ℕ) → IfNone (value_at rows word) (All (λ row. row.0 ≢ word) rows)
value_none rows word = go (find (λ row. bytes_eq row.0 word) rows) (find-Found _ rows)
  where
    go : (r : Option (List ℕ × ℕ)) → Found (λ row. bytes_eq row.0 word) rows r → IfNone (option_map (λ row. row.1) r) (All (λ row. row.0 ≢ word) rows)
    go None h = All-weaker _ (λ row. row.0 ≢ word) (λ row e. ne_from_false _ _ _ (bytes_eq-Decides row.0 word) e) rows h
    go (Some row) h = tt

pub word_some : (rows : List (List ℕ × ℕ)) (value : ℕ) → IfSome (word_at rows value) (λ word. Contains rows (word, value))
word_some rows value = go (find (λ row. row.1 == value) rows) (find-Found _ rows)
  where
    go : (r : Option (List ℕ × ℕ)) → Found (λ row. row.1 == value) rows r → IfSome (option_map (λ row. row.0) r) (λ word. Contains rows (word, value))
    go None h = tt
    go (Some row) h = subst (λ (v : ℕ). Contains rows (row.0, v)) ((Decides-eqb row.1 value).0 h.1) h.0

pub word_none : (rows : List (List ℕ × ℕ)) (value : ℕ) → IfNone (word_at rows value) (All (λ row. row.1 ≢ value) rows)
word_none rows value = go (find (λ row. row.1 == value) rows) (find-Found _ rows)
  where
    go : (r : Option (List ℕ × ℕ)) → Found (λ row. row.1 == value) rows r → IfNone (option_map (λ row. row.0) r) (All (λ row. row.1 ≢ value) rows)
    go None h = All-weaker _ (λ row. row.1 ≢ value) (λ row e. ne_from_false _ _ _ (Decides-eqb row.1 value) e) rows h
    go (Some row) h = tt

-- the row is found by its word and by its number
pub value_of_row : (rows : List (List ℕ × ℕ)) (row : List ℕ × ℕ) → IsTrue (is_one_to_one rows) → Contains rows row → value_at rows row.0 ≡ Some row.1
value_of_row rows row d h =
    ap (option_map (λ row. row.1)) (find-only bytes_eq bytes_eq-Decides (λ row. row.0) rows row (and_parts _ _ d).0 h)

pub word_of_row : (rows : List (List ℕ × ℕ)) (row : List ℕ × ℕ) → IsTrue (is_one_to_one rows) → Contains rows row → word_at rows row.1 ≡ Some row.0
word_of_row rows row d h =
    ap (option_map (λ row. row.0)) (find-only (λ a b. a == b) Decides-eqb (λ row. row.1) rows row (and_parts _ _ d).1 h)

-- each look-up undoes the other
pub value_undone : (rows : List (List ℕ × ℕ)) (word : List ℕ) (r : Option ℕ) → IsTrue (is_one_to_one rows) → IfSome r (λ value. Contains rows (word, value)) → IfSome r (λ value. word_at rows value ≡ Some word)
value_undone rows word None d h = tt
value_undone rows word (Some value) d h = word_of_row rows (word, value) d h

pub word_undone : (rows : List (List ℕ × ℕ)) (value : ℕ) (r : Option (List ℕ)) → IsTrue (is_one_to_one rows) → IfSome r (λ word. Contains rows (word, value)) → IfSome r (λ word. value_at rows word ≡ Some value)
word_undone rows value None d h = tt
word_undone rows value (Some word) d h = value_of_row rows (word, value) d h

-- a fact of the bytes of a lent word
pub lent_some : (P : List ℕ → Type 0) (r : Option (Bor (List ℕ))) → IfSome (option_copied r) P → IfSome r (λ word. P word.now)
lent_some P None h = tt
lent_some P (Some word) h = h

pub lent_none : (P : Type 0) (r : Option (Bor (List ℕ))) → IfNone (option_copied r) P → IfNone r P
lent_none P None h = h
lent_none P (Some word) h = tt
