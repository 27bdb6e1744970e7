-- How long the text is that the JSON of a report stands for.
use Rattle.std.proofs.Common.{◌≡◌, ℕ, ◌*◌, ◌+◌, ◌≤◌, inl, inr, Bool, true, false, List, [], ◌∷◌, ◌++◌, length, map, Option, Some, None, option_map, refl, ap, arith, true≢false, sym, codes, decimal, bytes_eq, nat_le, if◌then◌else◌, is_some, Ok}
use Rattle.std.{specs.{List.{list_all, list_any}, Cmp.Lexicographic.bytes_decides}, proofs.lemmas.Bool.{and_parts, leb-true, or_cases}}
use Rattle.text_lines.specs.Text.{line}
use Rattle.collective_spec.specs.Kinds.{word_of, every_kind}
use Rattle.serde_json.specs.{Data.{Data, null, no_members, put}, Find.{as_str, get}}
use Rattle.json_values.{specs.{Shape.{◌>>=◌, count_in, name_in}, Forms.{count, name, says_word, word}, Answer.text_of_json}, proofs.TopologyShort.{count_token, name_token, topology_short, version_token}}
use Rattle.json_values.proofs.Short.{amount, always_most, Short, name_short, number_short, wider, fixed_short, both_short, headed_short, each_short, row_short, field_short, object_short, if_short, nothing_short, token_short, keyed_short, lined_short, text_short}
use Rattle.json_reports.proofs.Keys.{may_put}
use Rattle.json_rules.specs.{ReportForm.{send, point, frontier, kinds, words}, ReportJson.{report_in, report_text_in}}

-- ---- words

among : (text : List ℕ) (words : List (List ℕ)) → list_all (λ w. nat_le (length w) 13) words ≡ true → list_any (bytes_eq text) words ≡ true → length text ≤ 13
among text [] h e = absurd (true≢false (sym e))
among text (w ∷ ws) h e = elim (or_cases (bytes_eq text w) _ e) [
  | inl same ↦ omega (arith, ap length ((bytes_decides text w).0 same), leb-true (length w) 13 (and_parts _ _ h).0)
  | inr later ↦ among text ws (and_parts _ _ h).1 later
]

word_is : (words : List (List ℕ)) → list_all (λ w. nat_le (length w) 13) words ≡ true → (text : List ℕ) (b : Bool) → list_any (bytes_eq text) words ≡ b → amount length (if b then Some text else None) ≤ 13
word_is words h text true e = among text words h e
word_is words h text false e = omega arith

-- the text, where it is one of these words
abbrev among_these : List (List ℕ) → Data → Option (List ℕ)
among_these words d = as_str d >>= λ w. if list_any (bytes_eq w) words then Some w else None

word_short : (words : List (List ℕ)) → list_all (λ w. nat_le (length w) 13) words ≡ true → (d : Data) → amount length (among_these words d) ≤ 13
word_short words h d = always_most length 13 (as_str d) _ (λ s. word_is words h s (list_any (bytes_eq s) words) refl)

word_token : (words : List (List ℕ)) → list_all (λ w. nat_le (length w) 13) words ≡ true → Short (λ w. 32 ∷ w) 14 (word words).read
word_token words h = token_short (among_these words) 13 (word_short words h)

abbrev marks : List (List ℕ)
marks = codes "optimal" ∷ codes "open" ∷ codes "joined" ∷ []

-- ---- points and frontiers

send_short : Short line 70 (send []).read
send_short = lined_short (codes "send") (row_short (count.read ∷ name.read ∷ name.read ∷ count.read ∷ []) (count_token, (wider (omega arith) name_token, (wider (omega arith) name_token, (count_token, tt)))))

at_count : (key : List ℕ) → Short (λ w. 32 ∷ w) 65 (λ d. get key d >>= count.read)
at_count key = field_short key count_token

abbrev is_joined : Data → Bool
is_joined = says_word (codes "mark") (word marks).read (codes "joined")

point_short : Short line 422 (point []).read
point_short =
    object_short (λ d. put (codes "s") null (put (codes "r") null (put (codes "c") null (put (codes "mark") null (may_put (is_joined d) (codes "adding") (put (codes "rounds") null (put (codes "sends") null no_members)))))))
    (both_short (lined_short (codes "point") (both_short (at_count (codes "s")) (both_short (at_count (codes "r")) (both_short (at_count (codes "c")) (both_short (field_short (codes "mark") (word_token marks refl)) (if_short is_joined (at_count (codes "adding")) (nothing_short 65)))))))
    (both_short (lined_short (codes "rounds") (field_short (codes "rounds") (each_short count_token))) (field_short (codes "sends") (each_short send_short))))

frontier_short : Short line 591 (frontier []).read
frontier_short =
    object_short (λ d. put (codes "part") null (put (codes "points") null (put (codes "refuted") null (put (codes "unknown") null no_members))))
    (both_short (lined_short (codes "frontier") (field_short (codes "part") (word_token (codes "whole" ∷ codes "reduce" ∷ codes "gather" ∷ []) refl)))
    (both_short (field_short (codes "points") (each_short point_short))
    (both_short (field_short (codes "refuted") (each_short (lined_short (codes "refuted") (row_short (count.read ∷ count.read ∷ count.read ∷ []) (count_token, (count_token, (count_token, tt)))))))
    (field_short (codes "unknown") (each_short (lined_short (codes "unknown") (row_short (count.read ∷ count.read ∷ count.read ∷ count.read ∷ []) (count_token, (count_token, (count_token, (count_token, tt)))))))))))

-- ---- the words

number_at : (key : List ℕ) → Short (λ w. 32 ∷ w) (length key + 66) (λ d. get key d >>= λ v. option_map (map (λ w. key ++ 61 ∷ w)) (count.read v))
number_at key = field_short key (keyed_short (λ d. option_map decimal (count_in d)) 64 key (λ d. number_short (count_in d)))

yes_at : (key : List ℕ) → Short (λ w. 32 ∷ w) (length key + 15) (λ d. get key d >>= λ v. option_map (map (λ w. key ++ 61 ∷ w)) ((word (codes "yes" ∷ [])).read v))
yes_at key = field_short key (keyed_short (among_these (codes "yes" ∷ [])) 13 key (word_short (codes "yes" ∷ []) refl))

abbrev has : List ℕ → Data → Bool
has key d = is_some (get key d)

words_short : Short line 379 (words []).read
words_short =
    object_short
    (λ d. put (codes "collective") null (put (codes "k") null (put (codes "steps") null (put (codes "chunks") null (put (codes "conflicts") null (may_put (has (codes "root") d) (codes "root") (may_put (has (codes "cuts") d) (codes "cuts") (may_put (has (codes "ordered") d) (codes "ordered") no_members))))))))
    (lined_short (codes "synth")
    (both_short (field_short (codes "collective") (keyed_short (among_these (map word_of every_kind)) 13 (codes "collective") (word_short (map word_of every_kind) refl))) (both_short (number_at (codes "k")) (both_short (number_at (codes "steps")) (both_short (number_at (codes "chunks")) (both_short (number_at (codes "conflicts"))
    (both_short (if_short (has (codes "root")) (field_short (codes "root") (keyed_short name_in 16 (codes "root") name_short)) (nothing_short 22)) (both_short (if_short (has (codes "cuts")) (yes_at (codes "cuts")) (nothing_short 19)) (if_short (has (codes "ordered")) (yes_at (codes "ordered")) (nothing_short 22))))))))))

-- ---- the whole

abbrev joins : Data → Bool
joins = says_word (codes "words") (λ w. get (codes "collective") w >>= kinds.read) (codes "allreduce")

report_short : Short line 2000 report_in
report_short =
    wider (omega arith)
    (object_short (λ d. put (codes "words") null (put (codes "topology") null (put (codes "frontiers") null (put (codes "joined") null no_members))))
    (both_short (lined_short (codes "sccl") (field_short (codes "topology") (field_short (codes "version") version_token))) (both_short (field_short (codes "words") words_short)
    (both_short (field_short (codes "topology") topology_short) (both_short (field_short (codes "frontiers") (each_short frontier_short))
    (both_short (if_short joins (headed_short (codes "joined" ∷ []) (field_short (codes "joined") (each_short point_short))) (field_short (codes "joined") (row_short [] tt))) (fixed_short {k = 4} (λ d. omega arith))))))))

pub report_text_short : (bytes text : List ℕ) → text_of_json report_text_in bytes ≡ Ok text → length text ≤ 2000 * length bytes
report_text_short bytes text h = text_short 2000 report_short bytes text h
