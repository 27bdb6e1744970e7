-- The value that bytes are, and pairs in a list.
use Rattle.std.proofs.Common.{◌≡◌, ◌≢◌, ℕ, Bool, true, false, List, [], ◌∷◌, ◌++◌, length, get_or, Option, Some, None, refl, sym, ap, ◌∙◌, ◌==◌, arith, bytes_eq, if◌then◌else◌, option_map, slice_index_or, true≢false, IsUtf8}
use Rattle.std.{specs.{Prelude.unwrap_or, List.{join_with_byte, list_any}, Str.is_utf8}, proofs.lemmas.{Bool.ne_eqb, Slice.Eq.bytes_eq-Decides, Str.{is_utf8-from_IsUtf8, IsUtf8-from_is_utf8}}}
use Rattle.serde_json.specs.{Data.Data, Find.{as_str, get}, Read.read, View.{view, items_view}, declared.value.Value.Value}
use Rattle.json_values.specs.{Json.value_of, Shape.{◌>>=◌, ◌⊕◌, one, name_in}, Forms.{name, row_read, says_word, word}, Pieces.says}

pub value_is : (bytes : List ℕ) (d : Data) → IsUtf8 bytes → read bytes ≡ Some d → value_of bytes ≡ Some d
value_is bytes d utf8 h = ap (λ b. if b then read bytes else None) (is_utf8-from_IsUtf8 bytes utf8) ∙ h

pub no_value : (bytes : List ℕ) → (IsUtf8 bytes → read bytes ≡ None) → value_of bytes ≡ None
no_value bytes h = go (is_utf8 bytes) refl
  where
    go : (b : Bool) → is_utf8 bytes ≡ b → (if b then read bytes else None) ≡ None
    go true e = h (IsUtf8-from_is_utf8 bytes e)
    go false e = refl

pub nothing_behind : {A : Type 0} (o : Option (List A)) → (o ⊕ None) ≡ None
nothing_behind None = refl
nothing_behind (Some xs) = refl

linked : (from to : Option (List ℕ)) → one (option_map (join_with_byte 62) (one from ⊕ one to ⊕ Some [])) ≡ (from >>= λ f. to >>= λ t. Some ((f ++ 62 ∷ t) ∷ []))
linked None to = refl
linked (Some f) None = refl
linked (Some f) (Some t) = refl

pub pair_is : (vs : List Value) (a b : Value) → length vs ≡ 2 → a ≡ get_or vs 0 a → b ≡ get_or vs 1 b → one (option_map (join_with_byte 62) (row_read (name.read ∷ name.read ∷ []) (items_view vs))) ≡ (name_in (view a) >>= λ from. name_in (view b) >>= λ to. Some ((from ++ 62 ∷ to) ∷ []))
pair_is [] a b h at at_too = absurd (omega arith)
pair_is (x ∷ []) a b h at at_too = absurd (omega arith)
pair_is (x ∷ y ∷ []) a b h at at_too = rw (at, at_too) (linked (name_in (view x)) (name_in (view y)))
pair_is (x ∷ y ∷ z ∷ vs) a b h at at_too = absurd (omega arith)

pub no_pair : (vs : List Value) → length vs ≢ 2 → one (option_map (join_with_byte 62) (row_read (name.read ∷ name.read ∷ []) (items_view vs))) ≡ None
no_pair [] h = refl
no_pair (x ∷ []) h = rw nothing_behind refl
no_pair (x ∷ y ∷ []) h = absurd (h refl)
no_pair (x ∷ y ∷ z ∷ vs) h = rw (nothing_behind, nothing_behind) refl

pub none_there : (vs : List Value) → (length vs == 0) ≡ true → row_read {A = List (List ℕ)} [] (items_view vs) ≡ Some []
none_there [] h = refl
none_there (v ∷ vs) h = absurd (true≢false (sym h ∙ ne_eqb (length (v ∷ vs)) 0 (λ e. omega arith)))

pub some_there : (vs : List Value) → (length vs == 0) ≡ false → row_read {A = List (List ℕ)} [] (items_view vs) ≡ None
some_there [] h = absurd (true≢false h)
some_there (v ∷ vs) h = refl

-- ---- words

by_word : (text w : List ℕ) (known same : Bool) → (same ≡ true → known ≡ true) → bytes_eq text w ≡ same → unwrap_or (option_map (λ ts. bytes_eq (slice_index_or ts 0 []) w) (one (if known then Some text else None))) false ≡ same
by_word text w true same h e = e
by_word text w false true h e = absurd (true≢false (sym (h refl)))
by_word text w false false h e = refl

-- what stands for one of these words is this one of them, where the text is this word
pub says_is : (key : List ℕ) (words : List (List ℕ)) (w : List ℕ) → list_any (bytes_eq w) words ≡ true → (d : Data) → says_word key (word words).read w d ≡ says key w d
says_is key words w has d = at_key (get key d)
  where
    of_text : (o : Option (List ℕ)) → unwrap_or (option_map (λ ts. bytes_eq (slice_index_or ts 0 []) w) (one (o >>= λ t. if list_any (bytes_eq t) words then Some t else None))) false ≡ unwrap_or (option_map (λ t. bytes_eq t w) o) false
    of_text None = refl
    of_text (Some t) = by_word t w (list_any (bytes_eq t) words) (bytes_eq t w) (λ e. ap (λ u. list_any (bytes_eq u) words) ((bytes_eq-Decides t w).0 e) ∙ has) refl

    at_key : (o : Option Data) → unwrap_or (option_map (λ ts. bytes_eq (slice_index_or ts 0 []) w) (o >>= (word words).read)) false ≡ unwrap_or (option_map (λ t. bytes_eq t w) (o >>= as_str)) false
    at_key None = refl
    at_key (Some v) = of_text (as_str v)
