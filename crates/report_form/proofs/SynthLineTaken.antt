-- What the checks of the line that says what was asked took stands there, and is valid.
use Rattle.std.proofs.{Common.{◌≡◌, ℕ, ◌<◌, Bool, true, false, ◌||◌, not, List, [], ◌∷◌, ◌++◌, length, Option, None, Some, Ok, refl, sym, ap, ◌∙◌, arith, codes, decimal, bytes_eq, find, if◌then◌else◌}, lemmas.Bool.and_parts}
use Rattle.std.proofs.lemmas.{Slice.Eq.bytes_eq-Decides, List.append-nil, Option.same_Some}
use Rattle.text_lines.{specs.{Text.Place, Check.line_part}, proofs.{Checks.{ok_is, need_is}, Gives.{Gives, Between}}}
use Rattle.collective_spec.specs.{declared.kind.Kind.{Kind}, Kinds.{word_of, takes_root, is_custom}}
use Rattle.candidate_order.specs.{declared.pruning.Pruning.Pruning, Ranges.{LimitsValue, IsLimits, unpruned}}
use Rattle.topology_text.{specs.{Names.{is_name}, Spelling.name_at}, proofs.Links.node_is}
use Rattle.report_form.specs.{declared.fault.ReportCode.ReportCode, Reports.IsWords, Spelling.{word_if, pruning_words, synth_words}, Tests.are_limits, Fields.{any_number, next_keyed}}
use Rattle.report_form.specs.SynthLine.{AskedValue, kinds_of, kind_named, limits_from, root_from, said_from, pruning_from, asked_from, may_be_asked, asked_line, root_of, words_from}
use Rattle.report_form.proofs.{Tested.decides_limits, Tokens.{pass_then, pass_done, word_take, fixed_take, no_more_take, keyed_is, any_number_is}, LineTaken.ruled_gives}

-- ---- keys

-- a key, the bytes behind it, and what they are read as
pub record KeyedTaken {A : Type 0} (key : List ℕ) (read : List ℕ → Option A) (words : List (List ℕ)) (x : A × List (List ℕ)) : Type 0 where
  pub value : List ℕ
  pub stands : words ≡ (key ++ value) ∷ x.1
  pub read_as : read value ≡ Some x.0

pub keyed_take : {A : Type 0} (key : List ℕ) (read : List ℕ → Option A) (words : List (List ℕ)) (x : A × List (List ℕ)) → next_keyed key read words ≡ Ok x → KeyedTaken key read words x
keyed_take key read words x e = grind (arith, word_take, keyed_is)

pub found_is : (p : Kind → Bool) (kinds : List Kind) (k : Kind) → find p kinds ≡ Some k → p k ≡ true
found_is p [] k e = absurd (cc)
found_is p (x ∷ xs) k e = grind (arith, same_Some, found_is p xs k)

kind_is : (patterned : Bool) (w : List ℕ) (k : Kind) → kind_named patterned w ≡ Some k → w ≡ word_of k
kind_is patterned w k e = sym ((bytes_eq-Decides (word_of k) w).0 (found_is (λ kind. bytes_eq (word_of kind) w) (kinds_of patterned) k e))

-- in version 1 no pairs are given
kind_standard : (w : List ℕ) (k : Kind) → kind_named false w ≡ Some k → is_custom k ≡ false
kind_standard w k e = standard k (ap (kind_named false) (sym (kind_is false w k e)) ∙ e)
  where
    standard : (x : Kind) → kind_named false (word_of x) ≡ Some x → is_custom x ≡ false
    standard x h = grind arith

-- ---- the limits

abbrev pub limits : ℕ → ℕ → ℕ → ℕ → LimitsValue
limits k s c n = record { k = k; max_s = s; max_c = c; conflicts = n; pruning = unpruned }

-- the tokens of the limits, and those behind them
abbrev pub limits_words : LimitsValue → List (List ℕ) → List (List ℕ)
limits_words l rest = (codes "k=" ++ decimal l.k) ∷ (codes "steps=" ++ decimal l.max_s) ∷ (codes "chunks=" ++ decimal l.max_c) ∷ (codes "conflicts=" ++ decimal l.conflicts) ∷ rest

pub limits_take : (words : List (List ℕ)) (x : LimitsValue × List (List ℕ)) → limits_from words ≡ Ok x → IsLimits x.0 → words ≡ limits_words x.0 x.1
limits_take words =
    pass_then _ _ _ _ (keyed_take (codes "k=") any_number words) (λ k t1. pass_then _ _ _ _ (keyed_take (codes "steps=") any_number k.1) (λ s t2. pass_then _ _ _ _ (keyed_take (codes "chunks=") any_number s.1)
    (λ c t3. pass_then _ _ _ _ (keyed_take (codes "conflicts=") any_number c.1) (λ n t4. pass_done _ _ (λ ok.
    let e1 = any_number_is t1.value k.0 t1.read_as (omega (arith, ok.k)) in
    let e2 = any_number_is t2.value s.0 t2.read_as (omega (arith, ok.steps)) in
    let e3 = any_number_is t3.value c.0 t3.read_as (omega (arith, ok.chunks)) in
    let e4 = any_number_is t4.value n.0 t4.read_as (omega (arith, ok.conflicts)) in
    cc)))))

-- ---- the root

-- the token of the root, where there is one
abbrev pub root_tokens : Option (List ℕ) → List (List ℕ)
root_tokens None = []
root_tokens (Some name) = (codes "root=" ++ name) ∷ []

-- there is a name exactly where the collective takes a root
abbrev pub RootFits : Bool → Option (List ℕ) → Type 0
RootFits true root = (name : List ℕ) × (root ≡ Some name) × (is_name name ≡ true)
RootFits false root = root ≡ None

pub record RootTaken (takes : Bool) (words : List (List ℕ)) (x : Option (List ℕ) × List (List ℕ)) : Type 0 where
  pub stands : words ≡ root_tokens x.0 ++ x.1
  pub fits : RootFits takes x.0

pub root_take : (kind : Kind) (words : List (List ℕ)) (x : Option (List ℕ) × List (List ℕ)) → root_from kind words ≡ Ok x → RootTaken (takes_root kind) words x
root_take kind words = grind (arith, pass_then, keyed_take, pass_done)

-- ---- what may be left out

said_is : (word : List ℕ) (words : List (List ℕ)) → words ≡ word_if word (said_from word words).0 ++ (said_from word words).1
said_is word words = grind (arith, bytes_eq-Decides)

pub pruning_take : (words : List (List ℕ)) (p : Pruning) → pruning_from words ≡ Ok p → words ≡ pruning_words p
pruning_take words =
    let cuts : Bool × List (List ℕ) = said_from (codes "cuts=yes") words in
    let ordered : Bool × List (List ℕ) = said_from (codes "ordered=yes") cuts.1 in
    pass_then _ _ _ _ (no_more_take ordered.1) (λ u e. pass_done _ _ (said_is (codes "cuts=yes") words
    ∙ ap (λ ws. word_if (codes "cuts=yes") cuts.0 ++ ws) (said_is (codes "ordered=yes") cuts.1 ∙ (ap (λ ws. word_if (codes "ordered=yes") ordered.0 ++ ws) e ∙ append-nil (word_if (codes "ordered=yes") ordered.0)))))

-- the same numbers, where this may be left out
abbrev pub pruned : LimitsValue → Pruning → LimitsValue
pruned l p = record l { pruning = p }

-- the ranges are those of the numbers
pub in_range : (l : LimitsValue) (p : Pruning) → IsLimits (pruned l p) → IsLimits l
in_range l p ok = record { k = ok.k; some_steps = ok.some_steps; steps = ok.steps; some_chunks = ok.some_chunks; chunks = ok.chunks; some_conflicts = ok.some_conflicts; conflicts = ok.conflicts }

-- ---- the line

abbrev pub asked : Kind → LimitsValue → Option (List ℕ) → AskedValue
asked kind l root = record { kind = kind; limits = l; root = root }

abbrev pub asked_words : AskedValue → List (List ℕ)
asked_words a = codes "synth" ∷ (codes "collective=" ++ word_of a.kind) ∷ limits_words a.limits (root_tokens a.root ++ pruning_words a.limits.pruning)

pub record AskedTaken (patterned : Bool) (words : List (List ℕ)) (a : AskedValue) : Type 0 where
  pub stands : IsLimits a.limits → words ≡ asked_words a
  pub fits : RootFits (takes_root a.kind) a.root
  pub kind : patterned ≡ false → is_custom a.kind ≡ false

-- the kind that a word of the version names
kind_fits : (patterned : Bool) (w : List ℕ) (k : Kind) → kind_named patterned w ≡ Some k → patterned ≡ false → is_custom k ≡ false
kind_fits patterned w k e version = kind_standard w k (ap (λ b. kind_named b w) (sym version) ∙ e)

pub asked_take : (patterned : Bool) (words : List (List ℕ)) (a : AskedValue) → asked_from patterned words ≡ Ok a → AskedTaken patterned words a
asked_take patterned words =
    pass_then _ _ _ _ (fixed_take (codes "synth") words) (λ b e1. pass_then _ _ _ _ (keyed_take (codes "collective=") (kind_named patterned) b) (λ k t. pass_then _ _ _ _ (limits_take k.1)
    (λ l ranged. pass_then _ _ _ _ (root_take k.0 l.1) (λ r root. pass_then _ _ _ _ (pruning_take r.1) (λ p e5. pass_done _ _ (record {
      stands = λ ok. let e2 = kind_is patterned t.value k.0 t.read_as in let e3 = ranged (in_range l.0 p ok) in let e4 = root.stands in let e6 = t.stands in cc;
      fits = root.fits;
      kind = kind_fits patterned t.value k.0 t.read_as;
    }))))))

pub record IsAsked (patterned : Bool) (a : AskedValue) : Type 0 where
  pub limits : IsLimits a.limits
  pub fits : RootFits (takes_root a.kind) a.root
  pub kind : is_custom a.kind ≡ patterned

pub asked_gives : (patterned : Bool) (p : Place) → Gives (λ (e : ReportCode × ℕ). e.1 ≡ p.number) (λ (x : AskedValue × Place). IsAsked patterned x.0 × Between (asked_words x.0 ∷ []) p x.1) (line_part (asked_line patterned) p)
asked_gives patterned p = ruled_gives (asked_from patterned) (may_be_asked patterned) (λ a. a) asked_words (IsAsked patterned)
    (λ words a shape rule.
    let taken = asked_take patterned words a shape in
    let (within, may) = and_parts (are_limits a.limits) (not patterned || is_custom a.kind) rule in
    let ok = (decides_limits a.limits).0 within in
    (taken.stands ok, record { limits = ok; fits = taken.fits; kind = (grind (arith, taken.kind)) })) p

-- ---- with the names

pub record WordsTaken (names : List (List ℕ)) (a : AskedValue) (root : ℕ) : Type 0 where
  pub spelled : asked_words a ≡ synth_words names (words_from a root)
  pub valid : IsWords (length names) (words_from a root)

pub words_take : (names : List (List ℕ)) (a : AskedValue) (root : ℕ) → 0 < length names → IsLimits a.limits → RootFits (takes_root a.kind) a.root → root_of names a.root ≡ Ok root → WordsTaken names a root
words_take names a root some ok fits e = chosen (takes_root a.kind) refl fits
  where
    -- the line with these tokens of the root
    front : List (List ℕ) → List (List ℕ)
    front ws = codes "synth" ∷ (codes "collective=" ++ word_of a.kind) ∷ limits_words a.limits (ws ++ pruning_words a.limits.pruning)

    chosen : (b : Bool) → b ≡ takes_root a.kind → RootFits b a.root → WordsTaken names a root
    chosen true takes (name, is, good) = grind (arith, node_is, need_is, front)
    chosen false takes is =
        let zero_root : 0 ≡ root = ok_is {C = ReportCode} 0 root (ap (root_of names) (sym is) ∙ e) in
        record {
          spelled = ap (λ o. front (root_tokens o)) is ∙ ap (λ b. front (if b then (codes "root=" ++ name_at names root) ∷ [] else [])) takes;
          valid = record { limits = ok; root = omega (arith, zero_root, some); no_root = λ h. sym zero_root };
        }
