-- The line that says what was asked is read, where it is spelled.
use Rattle.std.proofs.{Common.{◌≡◌, ℕ, ◌<◌, ◌^◌, Bool, true, false, ◌||◌, not, List, [], ◌∷◌, ◌++◌, length, Option, None, Some, Result, Ok, refl, sym, ap, arith, codes, decimal, if◌then◌else◌}, lemmas.{Bool.and_from, List.length-append}}
use Rattle.std.proofs.lemmas.List.Elements.{All-get_or}
use Rattle.text_lines.{specs.{Text.Row, Check.{◌>>=◌, need, line_part}}, proofs.{ReadBack.Reads, Repeated.place, Rows.{AreTokens, row_of}, Words.{IsWord, AreWords, literal, decimal_word, token-append, tokens_from}}}
use Rattle.collective_spec.specs.{declared.kind.Kind.{Kind}, Kinds.{word_of, takes_root, is_custom}}
use Rattle.candidate_order.specs.{declared.pruning.Pruning.Pruning, Ranges.{LimitsValue, IsLimits, unpruned}}
use Rattle.topology_text.{specs.{Names.{is_name, name_of, AreNames}, Spelling.name_at}, proofs.{Front.{name_word, name_of_name}, Links.node_again}}
use Rattle.report_form.specs.{declared.fault.ReportCode.ReportCode, Reports.{WordsValue, IsWords}, Spelling.{root_words, pruning_words, synth_words}, Tests.are_limits, Fields.{any_number, next_keyed}}
use Rattle.report_form.{specs.SynthLine.{AskedValue, kind_named, limits_from, pruning_from, asked_from, may_be_asked, asked_line, root_of}, proofs.{Tested.decides_limits, SynthLineTaken.{limits_words, pruned}}}
use Rattle.report_form.specs.declared.fault.ReportCode.TheVariants as code
use Rattle.report_laws.proofs.{TokensAgain.{ok_then, keyed_again, any_number_again}, ListsAgain.ruled_part}

-- ---- the kind and the limits

pub kind_back : (k : Kind) → kind_named true (word_of k) ≡ Some k
kind_back k = grind arith

number_with : (key : List ℕ) (n : ℕ) (rest : List (List ℕ)) → n < 2 ^ 64 → next_keyed key any_number ((key ++ decimal n) ∷ rest) ≡ Ok (n, rest)
number_with key n rest small = keyed_again key any_number (decimal n) rest n (any_number_again n small)

pub limits_again : (l : LimitsValue) (rest : List (List ℕ)) → IsLimits l → limits_from (limits_words l rest) ≡ Ok (pruned l unpruned, rest)
limits_again l rest ok =
    ok_then _ _ (number_with (codes "ok.k=") l.k _ (omega (arith, ok.k))) (ok_then _ _ (number_with (codes "steps=") l.max_s _ (omega (arith, ok.steps)))
    (ok_then _ _ (number_with (codes "chunks=") l.max_c _ (omega (arith, ok.chunks))) (ok_then _ _ (number_with (codes "conflicts=") l.conflicts rest (omega (arith, ok.conflicts))) refl)))

-- ---- the root

-- the name of the root, where the collective takes one
abbrev pub root_asked : Bool → List (List ℕ) → ℕ → Option (List ℕ)
root_asked b names root = if b then Some (name_at names root) else None

abbrev root_tokens : Bool → List (List ℕ) → ℕ → List (List ℕ)
root_tokens b names root = if b then (codes "root=" ++ name_at names root) ∷ [] else []

pub root_is_name : (names : List (List ℕ)) (root : ℕ) → AreNames names → root < length names → is_name (name_at names root) ≡ true
root_is_name names root named below = All-get_or (λ n. is_name n ≡ true) names root [] below named.each

abbrev pub rooted : List ℕ × List (List ℕ) → Result (Option (List ℕ) × List (List ℕ)) ReportCode
rooted name = Ok (Some name.0, name.1)

root_again : (b : Bool) (names : List (List ℕ)) (root : ℕ) (rest : List (List ℕ)) → AreNames names → root < length names
    → (if b then (next_keyed (codes "root=") name_of (root_tokens b names root ++ rest) >>= rooted) else Ok (None, root_tokens b names root ++ rest)) ≡ Ok (root_asked b names root, rest)
root_again b names root rest named below = grind (arith, ok_then, keyed_again, name_of_name, root_is_name)

-- the number of the root is found by its name
pub root_of_again : (b : Bool) (names : List (List ℕ)) (root : ℕ) → AreNames names → root < length names → (b ≡ false → root ≡ 0) → root_of names (root_asked b names root) ≡ Ok root
root_of_again true names root named below none = ap (λ o. need o code.Limits) (node_again names root named.distinct below)
root_of_again false names root named below none = ap (λ n. Ok n) (sym (none refl))

-- ---- what may be left out

pub pruning_again : (p : Pruning) → pruning_from (pruning_words p) ≡ Ok p
pruning_again p = grind arith

-- ---- the line

abbrev pub asked_of : List (List ℕ) → WordsValue → AskedValue
asked_of names w = record { kind = w.collective.kind; limits = w.limits; root = root_asked (takes_root w.collective.kind) names w.collective.root }

pub asked_again : (patterned : Bool) (names : List (List ℕ)) (w : WordsValue) → is_custom w.collective.kind ≡ patterned → AreNames names → IsWords (length names) w → asked_from patterned (synth_words names w) ≡ Ok (asked_of names w)
asked_again patterned names w version named ok =
    ok_then _ _ (keyed_again (codes "collective=") (kind_named patterned) (word_of w.collective.kind) _ w.collective.kind (grind (arith, kind_back)))
    (ok_then _ _ (limits_again w.limits (root_words names w ++ pruning_words w.limits.pruning) ok.limits) (ok_then _ _ (root_again (takes_root w.collective.kind) names w.collective.root (pruning_words w.limits.pruning) named ok.root)
    (ok_then _ _ (pruning_again w.limits.pruning) refl)))

-- ---- its tokens

-- a key that is written out, and a word behind it
keyed_word : (key word : List ℕ) → IsWord key → IsWord word → IsWord (key ++ word)
keyed_word key word first second = (omega (arith, length-append key word, first.0), token-append key word first.1 second.1)

words_both : (a b : List (List ℕ)) → AreWords a → AreWords b → AreWords (a ++ b)
words_both [] b first second = second
words_both (w ∷ ws) b first second = (first.0, words_both ws b first.1 second)

number_word : (key : List ℕ) (n : ℕ) → IsWord key → n < 2 ^ 64 → IsWord (key ++ decimal n)
number_word key n first small = keyed_word key (decimal n) first (decimal_word n small)

pub synth_tokens : (names : List (List ℕ)) (w : WordsValue) → AreNames names → IsWords (length names) w → AreTokens (synth_words names w)
synth_tokens names w named ok =
    let l = ok.limits in
    let k = l.k in
    let n = l.conflicts in
    let kind = keyed_word (codes "collective=") (word_of w.collective.kind) (literal (codes "collective=") refl) (grind (arith, literal)) in
    let k_word = number_word (codes "k=") w.limits.k (literal (codes "k=") refl) (omega (arith, k)) in
    let s_word = number_word (codes "steps=") w.limits.max_s (literal (codes "steps=") refl) (omega (arith, l.steps)) in
    let c_word = number_word (codes "chunks=") w.limits.max_c (literal (codes "chunks=") refl) (omega (arith, l.chunks)) in
    let n_word = number_word (codes "conflicts=") w.limits.conflicts (literal (codes "conflicts=") refl) (omega (arith, n)) in
    let rest = words_both (root_words names w) (pruning_words w.limits.pruning) (grind (arith, keyed_word, literal, name_word, root_is_name)) (grind (arith, words_both, literal)) in
    tokens_from (synth_words names w) (omega arith) (literal (codes "synth") refl, (kind, (k_word, (s_word, (c_word, (n_word, rest))))))

pub asked_part_again : (patterned : Bool) (names : List (List ℕ)) (w : WordsValue) (n : ℕ) (rows : List Row) → is_custom w.collective.kind ≡ patterned → AreNames names → IsWords (length names) w
    → Reads (line_part (asked_line patterned) (place n (row_of (synth_words names w) ∷ rows))) (asked_of names w) rows
asked_part_again patterned names w n rows version named ok =
    ruled_part (asked_from patterned) (may_be_asked patterned) (λ a. a) (synth_words names w) (asked_of names w) (synth_tokens names w named ok) (asked_again patterned names w version named ok)
    (and_from (are_limits w.limits) (not patterned || is_custom w.collective.kind) ((decides_limits w.limits).1 ok.limits) (grind arith)) n rows
