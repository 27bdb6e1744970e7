-- Tokens and lines that are appended one after another.
use Rattle.std.{proofs.Common.{◌≡◌, ℕ, List, [], ◌∷◌, ◌++◌, Option, Some, None, Result, Ok, Err, ◌<◌, ◌≤◌, ◌==◌, false, drop, get_or, length, true≢false, map, option_map, refl, sym, ap, codes, decimal, ◌+◌, ◌≢◌, suc, ◌∙◌, append_assoc}, specs.List.flat_map, proofs.lemmas.List.{append-nil, drop_all, drop_more, Concat.flat_map-append}}
use Rattle.text_lines.{specs.{declared.stop.Stop.{Stop, TheVariants.{Memory, Refused}}, Text.{line, fields, text_of}}, proofs.Words.join_fields}
use Rattle.serde_json.specs.{Data.{Data, Items, no_items, item}, Events.items_len, Find.{as_array, get}, View.{view, items_view}, declared.value.Value.Value}
use Rattle.json_values.proofs.Values.{nothing_behind}
use Rattle.json_values.specs.{Shape.{◌>>=◌, ◌⊕◌, one, headed}, Appends.Appends, Forms.{each_read, row_read}, Pieces.tokens_in, TopologyForm.chunks_read, declared.token.Token.Token, inner.Chunks.chunks_in}

-- the bytes, and what these values stand for behind them
abbrev pub with_rest : {A : Type 0} → (A → List ℕ) → (Data → Option (List A)) → List ℕ → List Value → Option (List ℕ)
with_rest shown read out vs = option_map (λ xs. out ++ flat_map shown xs) (each_read read (items_view vs))

flat_past : {A : Type 0} (shown : A → List ℕ) (here rest : Option (List A)) (old new : List ℕ) → option_map (λ t. old ++ t) (option_map (flat_map shown) here) ≡ Some new
    → option_map (λ xs. old ++ flat_map shown xs) (here ⊕ rest) ≡ option_map (λ xs. new ++ flat_map shown xs) rest
flat_past shown None rest old new h = absurd cc
flat_past shown (Some xs) None old new h = refl
flat_past shown (Some xs) (Some ys) old new h =
    let told : old ++ flat_map shown xs ≡ new = cc in
    ap Some (ap (λ t. old ++ t) (flat_map-append shown xs ys) ∙ sym (append_assoc old (flat_map shown xs) (flat_map shown ys)) ∙ ap (λ t. t ++ flat_map shown ys) told)

-- past a value whose text is appended
pub past : {A : Type 0} (shown : A → List ℕ) (read : Data → Option (List A)) (vs : List Value) (n : ℕ) (v : Value) (old new : List ℕ) → n < length vs → v ≡ get_or vs n v
    → option_map (λ t. old ++ t) (option_map (flat_map shown) (read (view v))) ≡ Some new → with_rest shown read old (drop n vs) ≡ with_rest shown read new (drop (n + 1) vs)
past shown read vs n v old new below at h =
    ap (with_rest shown read old) (drop_more vs n v below ∙ ap (λ x. x ∷ drop (n + 1) vs) (sym at)) ∙ flat_past shown (read (view v)) (each_read read (items_view (drop (n + 1) vs))) old new h

pub lined : (old first second last word : List ℕ) (o : Option (List (List ℕ))) → first ≡ old ++ word → option_map (λ t. first ++ t) (option_map fields o) ≡ Some second → last ≡ second ++ 10 ∷ []
    → option_map (λ t. old ++ t) (option_map text_of (one (headed word o))) ≡ Some last
lined old first second last word None a b c = absurd cc
lined old first second last word (Some ws) a b c =
    let told : first ++ fields ws ≡ second = cc in
    rw (c, ← told, a, join_fields) (simp append_assoc)

-- the bytes, and the lines of these chunks behind them, of which the first has the number g
abbrev pub with_chunks : ℕ → List ℕ → List Value → List Value → Option (List ℕ)
with_chunks g out before after = option_map (λ ls. out ++ text_of ls) (chunks_read g (items_view before) (items_view after))

-- a token with its key before it
pub keyed : (r : Result (Unit {0}) (Stop (Unit {0}))) (old mid new key : List ℕ) (o : Option (List ℕ)) → mid ≡ ((old ++ 32 ∷ []) ++ key) ++ 61 ∷ [] → Appends r mid new o → Appends r old new (option_map fields (option_map (map (λ w. key ++ 61 ∷ w)) (one o)))
keyed (Ok u) old mid new key None a h = absurd cc
keyed (Ok u) old mid new key (Some w) a h = let told = rw a at h in simp (append_assoc, append-nil {A = ℕ}) (simp append_assoc at told)
keyed (Err Memory) old mid new key o a h = tt
keyed (Err (Refused u)) old mid new key o a h = ap (λ x. option_map fields (option_map (map (λ w. key ++ 61 ∷ w)) (one x))) h

-- where no value is left for a token that is due
pub too_few : (left : List Token) (vs : List Value) (n : ℕ) (old out : List ℕ) (o : Option (List (List ℕ))) → (length left == 0) ≡ false → length vs ≤ n
    → option_map (λ ws. old ++ fields ws) o ≡ option_map (λ ws. out ++ fields ws) (row_read (map tokens_in left) (items_view (drop n vs))) → option_map fields o ≡ None
too_few [] vs n old out o h k e = absurd (true≢false h)
too_few (t ∷ ts) vs n old out None h k e = refl
too_few (t ∷ ts) vs n old out (Some ws) h k e =
    let nothing : Some (old ++ fields ws) ≡ None = e ∙ ap (λ rest. option_map (λ xs. out ++ fields xs) (row_read (map tokens_in (t ∷ ts)) (items_view rest))) (drop_all n vs k) in
    absurd cc

-- ---- the chunks of a pattern

-- the lines behind a first one
pub ahead : (r : Result (Unit {0}) (Stop (Unit {0}))) (old mid new : List ℕ) (first : List (List ℕ)) (lines : Option (List (List (List ℕ)))) → Some (old ++ (line first ++ [])) ≡ Some mid → Appends r mid new (option_map text_of lines) → Appends r old new (option_map text_of (headed first lines))
ahead (Ok u) old mid new first None a h = absurd cc
ahead (Ok u) old mid new first (Some ls) a h =
    let begun : old ++ (line first ++ []) ≡ mid = cc in
    let told = rw (← begun) at h in
    simp append_assoc (simp append_assoc at told)
ahead (Err Memory) old mid new first lines a h = tt
ahead (Err (Refused u)) old mid new first None a h = refl
ahead (Err (Refused u)) old mid new first (Some ls) a h = absurd cc

pub as_many : (g : ℕ) (before after : Items) → items_len before ≢ items_len after → chunks_read g before after ≡ None
as_many g no_items no_items h = absurd (h refl)
as_many g no_items (item a after) h = refl
as_many g (item b before) no_items h = refl
as_many g (item b before) (item a after) h = rw (as_many (g + 1) before after (λ e. h (ap suc e)), nothing_behind, nothing_behind) refl

pub chunks_are : (d : Data) (before after : Items) → (get (codes "before") d >>= as_array) ≡ Some before → (get (codes "after") d >>= as_array) ≡ Some after → chunks_in d ≡ headed (codes "custom" ∷ decimal (items_len before) ∷ []) (chunks_read 0 before after)
chunks_are d before after b a = rw (b, a) refl
