-- Reading by spelling alone: a text is read as the report that it spells. Any other text is blamed at the first line at which it can no longer be a report's,
-- and the shape of that line says with which code. This project's own.
use Rattle.std.specs.Prelude.{◌≡◌, ℕ, ◌-◌, nat_le, nat_lt, Bool, true, false, ◌&&◌, ◌||◌, if◌then◌else◌, Option, None, Some, is_some, Result, Ok, Err, is_ok, List, [], ◌∷◌, ◌++◌, map, length, take, drop, slice_get, slice_index, slice_index_or, bytes_eq, codes}
use Rattle.std.specs.List.{list_any, list_all, last_or}
use Rattle.text_lines.specs.{Text.{Row, rows_of, words_of}, Number.number_up_to, Repeated.begins}
use Rattle.collective_spec.specs.{declared.kind.Kind.Kind, Kinds.{word_of, takes_root, standard_kinds, every_kind}}
use Rattle.topology_text.specs.{Names.is_name, Reading.{node_of, nodes_line}}
use Rattle.report_form.specs.{declared.fault.ReportCode.ReportCode, Reports.{ReportValue, IsReport}, Spelling.report_text, First.FailsFirstAt}
use Rattle.report_form.specs.declared.fault.ReportCode.TheVariants as code

-- ---- the shapes of lines

-- a place for a token: this word, or any word that passes the test, or this word if it stands there
pub data Token : Type 0 where
  Word : List ℕ → Token
  Any : (List ℕ → Bool) → Token
  May : List ℕ → Token

-- each token has its place, and each place its token
abbrev pub has_shape : List Token → List (List ℕ) → Bool
has_shape [] [] = true
has_shape (Word v ∷ shape) (w ∷ words) = bytes_eq w v && has_shape shape words
has_shape (Any passes ∷ shape) (w ∷ words) = passes w && has_shape shape words
has_shape (May v ∷ shape) (w ∷ words) = if bytes_eq w v then has_shape shape words else has_shape shape (w ∷ words)
has_shape (May v ∷ shape) [] = has_shape shape []
has_shape _ _ = false

-- a number of at most 65,535
abbrev pub small : Token
small = Any (λ w. is_some (number_up_to 65535 w))

-- the digits of a number of any size, without a leading zero
abbrev pub is_decimal : List ℕ → Bool
is_decimal w = bytes_eq w (codes "0") || (nat_lt 48 (slice_index w 0) && list_all (λ b. nat_le 48 b && nat_le b 57) w)

-- a key, and behind it what passes the test
abbrev pub key_with : List ℕ → (List ℕ → Bool) → Token
key_with key passes = Any (λ w. begins key w && passes (drop (length key) w))

-- the line of the words, for a collective
abbrev pub asked_shape : Kind → List Token
asked_shape kind =
    Word (codes "synth") ∷ Word (codes "collective=" ++ word_of kind) ∷ map (λ key. key_with key is_decimal) (codes "k=" ∷ codes "steps=" ∷ codes "chunks=" ∷ codes "conflicts=" ∷ [])
    ++ (if takes_root kind then key_with (codes "root=") is_name ∷ [] else []) ++ May (codes "cuts=yes") ∷ May (codes "ordered=yes") ∷ []

-- a word, the three numbers of a candidate, and more
abbrev pub candidate_shape : List ℕ → List Token → List Token
candidate_shape word more = Word word ∷ small ∷ small ∷ small ∷ more

-- a chunk, the names of two nodes, and a step
abbrev pub send_shape : List (List ℕ) → List Token
send_shape names = let node : Token = Any (λ w. is_some (node_of names w)) in Word (codes "send") ∷ small ∷ node ∷ node ∷ small ∷ []

-- ---- lines that have rules

-- the line has this shape
abbrev pub formed : List Token → Row → Bool
formed shape row = has_shape shape (words_of row.bytes)

-- numbers behind the first word
abbrev pub rounds : Row → Bool
rounds row = formed (Word (codes "rounds") ∷ map (λ w. small) (drop 1 (words_of row.bytes))) row

-- candidates without a schedule: of an unknown one the conflicts follow
abbrev pub unknown : Row → Bool
unknown = formed (candidate_shape (codes "unknown") (Any is_decimal ∷ []))

abbrev pub refuted : Row → Bool
refuted = formed (candidate_shape (codes "refuted") [])

-- of a frontier, where a point has a mark, or of the joined points
abbrev pub results : Bool → List (Row → Bool)
results joined =
    formed (candidate_shape (codes "point") (if joined then Word (codes "joined") ∷ small ∷ [] else Any (λ w. bytes_eq w (codes "optimal") || bytes_eq w (codes "open")) ∷ []))
    ∷ (if joined then [] else refuted ∷ unknown ∷ [])

-- the forms of the lines with rules that may stand behind a line with this first word: the words of a collective behind the version, the names of the nodes behind the topology's header
abbrev pub forms_after : Bool → List (List ℕ) → Bool → List ℕ → List (Row → Bool)
forms_after patterned names joined last =
    if bytes_eq last (codes "sccl") then map (λ kind. formed (asked_shape kind)) (if patterned then every_kind else standard_kinds)
    else if bytes_eq last (codes "topology") then (λ row. is_ok (nodes_line (Some row))) ∷ []
    else if bytes_eq last (codes "frontier") || bytes_eq last (codes "joined") then results joined
    else if bytes_eq last (codes "point") then rounds ∷ []
    else if bytes_eq last (codes "rounds") || bytes_eq last (codes "send") then formed (send_shape names) ∷ results joined
    else if bytes_eq last (codes "refuted") then refuted ∷ unknown ∷ []
    else if bytes_eq last (codes "unknown") then unknown ∷ []
    else []

-- ---- what the lines before say

-- the first token of a line
abbrev pub first_word : Row → List ℕ
first_word row = slice_index_or (words_of row.bytes) 0 []

-- the first line is that of version 2
abbrev pub is_patterned : List Row → Bool
is_patterned before = list_any (λ row. bytes_eq row.bytes (codes "sccl 2")) (take 1 before)

-- the names stand in the fourth line
abbrev pub names_in : List Row → List (List ℕ)
names_in before = drop 1 (words_of (slice_index_or (map (λ row. row.bytes) before) 3 []))

-- the forms of the lines with rules that may stand behind these lines, of which the last has this first word; joined points stand behind a line `joined`
abbrev pub forms_behind : List Row → Option (List ℕ) → List (Row → Bool)
forms_behind before None = []
forms_behind before (Some last) = forms_after (is_patterned before) (names_in before) (list_any (λ w. bytes_eq w (codes "joined")) (map first_word before)) last

-- ---- reading

-- the code of a line that is blamed behind these lines: it is lacking or was not ended; or it breaks a rule; or it has no shape that may stand there
abbrev pub code_of : List Row → Option Row → ReportCode
code_of before None = code.Truncated
code_of before (Some row) = if row.whole then (if list_any (λ form. form row) (forms_behind before (last_or None (map first_word before))) then code.Limits else code.BadLine) else code.Truncated

-- what a text is read as: the report that it spells; or the first line at which it can no longer be a report's, with its code
abbrev pub ReadsAs : List ℕ → Result ReportValue (ReportCode × ℕ) → Type 0
ReadsAs text (Ok r) = IsReport r × (text ≡ report_text r)
ReadsAs text (Err (why, n)) = FailsFirstAt text n × (why ≡ code_of (take (n - 1) (rows_of text)) (slice_get (rows_of text) (n - 1)))
