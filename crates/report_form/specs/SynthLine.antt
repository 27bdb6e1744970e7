-- The checks of the line that says what was asked. This project's own text.
use Rattle.std.specs.Prelude.{ℕ, ◌&&◌, ◌||◌, not, Bool, true, false, if◌then◌else◌, List, [], ◌∷◌, codes, find, bytes_eq, Option, None, Some, Result, Ok}
use Rattle.text_lines.specs.{Text.Row, Check.{◌>>=◌, refuse, need}}
use Rattle.collective_spec.specs.{declared.kind.Kind.Kind, Kinds.{word_of, takes_root, is_custom, standard_kinds, every_kind}}
use Rattle.candidate_order.specs.{declared.pruning.Pruning.Pruning, Ranges.{LimitsValue, unpruned}}
use Rattle.topology_text.specs.{Names.name_of, Reading.node_of}
use Rattle.report_form.specs.{declared.fault.ReportCode.ReportCode, Reports.WordsValue, Fields.{any_number, next_keyed, fixed_word, no_more}, Lines.tokens_line, Tests.are_limits}
use Rattle.report_form.specs.declared.fault.ReportCode.TheVariants as code

-- what was asked, with the root by its name, where the collective takes one
pub record AskedValue : Type 0 where
  pub kind : Kind
  pub limits : LimitsValue
  pub root : Option (List ℕ)

-- the kinds that the line may name: in version 2 also the one whose pairs are given
abbrev pub kinds_of : Bool → List Kind
kinds_of patterned = if patterned then every_kind else standard_kinds

-- the kind that the word names
abbrev pub kind_named : Bool → List ℕ → Option Kind
kind_named patterned word = find (λ kind. bytes_eq (word_of kind) word) (kinds_of patterned)

-- the numbers of the search, of any size, with nothing left out, and the tokens behind them
abbrev pub limits_from : List (List ℕ) → Result (LimitsValue × List (List ℕ)) ReportCode
limits_from words = do
  k ← next_keyed (codes "k=") any_number words
  steps ← next_keyed (codes "steps=") any_number k.1
  chunks ← next_keyed (codes "chunks=") any_number steps.1
  conflicts ← next_keyed (codes "conflicts=") any_number chunks.1
  Ok (record { k = k.0; max_s = steps.0; max_c = chunks.0; conflicts = conflicts.0; pruning = unpruned }, conflicts.1)

-- the name of the root, which stands there exactly where the collective takes one
abbrev pub root_from : Kind → List (List ℕ) → Result (Option (List ℕ) × List (List ℕ)) ReportCode
root_from kind words = if takes_root kind then (do
  name ← next_keyed (codes "root=") name_of words
  Ok (Some name.0, name.1)) else Ok (None, words)

-- whether the word is said next, and the tokens behind it
abbrev pub said_from : List ℕ → List (List ℕ) → Bool × List (List ℕ)
said_from word [] = (false, [])
said_from word (w ∷ ws) = if bytes_eq w word then (true, ws) else (false, w ∷ ws)

-- what may be left out: each word for it may stand there, in this order, and no other token
abbrev pub pruning_from : List (List ℕ) → Result Pruning ReportCode
pruning_from words =
    let cuts : Bool × List (List ℕ) = said_from (codes "cuts=yes") words in
    let ordered : Bool × List (List ℕ) = said_from (codes "ordered=yes") cuts.1 in
    no_more ordered.1 >>= (λ none. Ok (record { cuts = cuts.0; ordered = ordered.0 }))

-- the shape of the line
abbrev pub asked_from : Bool → List (List ℕ) → Result AskedValue ReportCode
asked_from patterned words = do
  a ← fixed_word (codes "synth") words
  kind ← next_keyed (codes "collective=") (kind_named patterned) a
  limits ← limits_from kind.1
  root ← root_from kind.0 limits.1
  pruning ← pruning_from root.1
  Ok (record { kind = kind.0; limits = record limits.0 { pruning = pruning }; root = root.0 })

-- the limits are in their ranges, and in version 2 the collective is the one whose pairs are given
abbrev pub may_be_asked : Bool → AskedValue → Bool
may_be_asked patterned asked = are_limits asked.limits && (not patterned || is_custom asked.kind)

abbrev pub asked_line : Bool → Option Row → Result AskedValue ReportCode
asked_line patterned line = do
  words ← tokens_line line
  asked ← asked_from patterned words
  _ ← refuse (not (may_be_asked patterned asked)) code.Limits
  Ok asked

-- the node of the root; 0 where the collective takes none
abbrev pub root_of : List (List ℕ) → Option (List ℕ) → Result ℕ ReportCode
root_of names None = Ok 0
root_of names (Some name) = need (node_of names name) code.Limits

-- what was asked, with the root by its number
abbrev pub words_from : AskedValue → ℕ → WordsValue
words_from asked root = record { collective = record { kind = asked.kind; root = root }; limits = asked.limits }
