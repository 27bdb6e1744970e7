-- The words of a search ask for it.
use Rattle.std.proofs.Common.{◌≡◌, ◌≢◌, ◌≤◌, ◌<◌, ◌+◌, ◌^◌, ◌&&◌, ℕ, Bool, true, false, not, nat_le, List, [], ◌∷◌, ◌++◌, length, drop, is_some, Option, None, Some, Result, Ok, refl, sym, ap, ◌∙◌, arith, codes, decimal, if◌then◌else◌}
use Rattle.std.{proofs.lemmas.Bool.Decides.nat_tests, specs.Str.Parse.digits_value}
use Rattle.text_lines.{specs.Check.{◌>>=◌, refuse}, proofs.Numbers.{up_to_some, value_of_decimal}}
use Rattle.collective_spec.specs.{declared.kind.Kind.{Kind, TheVariants.Allreduce}, Kinds.{word_of, every_kind, takes_root}}
use Rattle.candidate_order.specs.{declared.pruning.Pruning.Pruning, Ranges.{LimitsValue, IsLimits, unpruned}}
use Rattle.topology_text.specs.{Names.{AreNames, is_name}, Spelling.name_at}
use Rattle.report_form.specs.{Reports.{WordsValue, IsWords}, Spelling.{pruning_words, root_words, synth_words, word_if}}
use Rattle.command_words.specs.{declared.{command.{Command.Command, RootWord.RootWord}, fault.{WordCode.TheVariants.{BadValue, UnknownKey, KeyTwice}, WordFault.WordFault}, key.Key.Key, verb.Verb.Verb}, Commands.command_from}
use Rattle.command_words.{specs.{Tables.{has_key, key_row, Number}, Words.{at_word, command_of, fits, given_from, is_refused, with_word}, Given.{Given, is_given}}, proofs.{Naming.{any_named, kind_found}, Proper.untaken}}
use Rattle.report_laws.proofs.SynthLineAgain.{root_is_name}
use Rattle.command_words.specs.declared.command.Command.TheVariants as command
use Rattle.command_words.specs.declared.key.Key.TheVariants as key
use Rattle.command_words.specs.declared.verb.Verb.TheVariants as verb
use Rattle.sccl_run.specs.Headline.{search_words}

-- ---- single values

number_fits : (least greatest n : ℕ) → least ≤ n → n ≤ greatest → greatest < 2 ^ 64 → fits (Number least greatest) (decimal n) ≡ true
number_fits least greatest n above below room =
    let small : n < 2 ^ 64 = omega arith in
    let far : nat_le least n ≡ true = grind (arith, nat_tests) in
    ap (λ o. is_some o && nat_le least (digits_value 10 (decimal n))) (up_to_some greatest n (decimal n) room refl below)
    ∙ ap (nat_le least) (value_of_decimal n small) ∙ far

kind_fits : (kind : Kind) → fits (key_row key.Collective).1 (word_of kind) ≡ true
kind_fits kind = any_named word_of every_kind (word_of kind) ∙ ap is_some (kind_found kind)

-- ---- words from left to right

-- a key of the command that is not given yet takes the value
key_again : (v : Verb) (k : Key) (text : List ℕ) (i : ℕ) (had : List Given) → has_key v k ≡ true → is_given k had ≡ false → fits (key_row k).1 text ≡ true → is_refused v k text ≡ false
    → (refuse (not (has_key v k)) UnknownKey >>= (λ _. refuse (is_given k had) KeyTwice >>= (λ _. refuse (not (fits (key_row k).1 text)) BadValue >>= (λ _. refuse (is_refused v k text) BadValue >>= (λ _. Ok (record { key = k; text = text; word = i } ∷ had))))))
    ≡ Ok (record { key = k; text = text; word = i } ∷ had)
key_again v k text i had has fresh fit taken = rw (has, fresh, fit, taken) refl

step : (v : Verb) (had more : List Given) (i : ℕ) (word : List ℕ) (rest : List (List ℕ)) → with_word v had i word ≡ Ok more → given_from v had i (word ∷ rest) ≡ given_from v more (i + 1) rest
step v had more i word rest e = ap (λ x. at_word i x >>= (λ m. given_from v m (i + 1) rest)) e

-- what the words of a search give, up to the root, and with it
abbrev first_given : Kind → LimitsValue → List Given
first_given kind l =
    record { key = key.Conflicts; text = decimal l.conflicts; word = 5 } ∷ record { key = key.Chunks; text = decimal l.max_c; word = 4 } ∷ record { key = key.Steps; text = decimal l.max_s; word = 3 }
    ∷ record { key = key.K; text = decimal l.k; word = 2 } ∷ record { key = key.Collective; text = word_of kind; word = 1 } ∷ []

abbrev with_root : Bool → List ℕ → List Given → List Given
with_root b name had = if b then record { key = key.Root; text = name; word = 6 } ∷ had else had

-- the commands that search have the keys of a search
record Searches (v : Verb) : Type 0 where
  collective : has_key v key.Collective ≡ true
  k : has_key v key.K ≡ true
  steps : has_key v key.Steps ≡ true
  chunks : has_key v key.Chunks ≡ true
  conflicts : has_key v key.Conflicts ≡ true
  root : has_key v key.Root ≡ true

-- the root that is named, and the number of words before what may be left out
abbrev pub root_named : Bool → List ℕ → Option RootWord
root_named b name = if b then Some (record { name = name; word = 6 }) else None

abbrev pub words_before : Bool → ℕ
words_before b = if b then 7 else 6

module _ (v : Verb) (has : Searches v) (kind : Kind) (l : LimitsValue) (ok : IsLimits l) (taken : is_refused v key.Collective (word_of kind) ≡ false) where
  limits_again : (rest : List (List ℕ))
      → given_from v [] 1 ((codes "collective=" ++ word_of kind) ∷ (codes "k=" ++ decimal l.k) ∷ (codes "steps=" ++ decimal l.max_s) ∷ (codes "chunks=" ++ decimal l.max_c) ∷ (codes "conflicts=" ++ decimal l.conflicts) ∷ rest)
      ≡ given_from v (first_given kind l) 6 rest
  limits_again rest =
      let k = ok.k in
      let s = ok.steps in
      let c = ok.chunks in
      let n = ok.conflicts in
      let g1 : List Given = record { key = key.Collective; text = word_of kind; word = 1 } ∷ [] in
      let g2 : List Given = record { key = key.K; text = decimal l.k; word = 2 } ∷ g1 in
      let g3 : List Given = record { key = key.Steps; text = decimal l.max_s; word = 3 } ∷ g2 in
      let g4 : List Given = record { key = key.Chunks; text = decimal l.max_c; word = 4 } ∷ g3 in
      let r5 : List (List ℕ) = (codes "conflicts=" ++ decimal l.conflicts) ∷ rest in
      let r4 : List (List ℕ) = (codes "chunks=" ++ decimal l.max_c) ∷ r5 in
      let r3 : List (List ℕ) = (codes "steps=" ++ decimal l.max_s) ∷ r4 in
      let r2 : List (List ℕ) = (codes "k=" ++ decimal l.k) ∷ r3 in
      step v [] g1 1 (codes "collective=" ++ word_of kind) r2 (key_again v key.Collective (word_of kind) 1 [] has.collective refl (kind_fits kind) taken)
      ∙ step v g1 g2 2 (codes "k=" ++ decimal l.k) r3 (key_again v key.K (decimal l.k) 2 g1 has.k refl (number_fits 0 8 l.k (omega arith) (omega (arith, k)) (omega arith)) (untaken v key.K (decimal l.k) refl refl))
      ∙ step v g2 g3 3 (codes "steps=" ++ decimal l.max_s) r4 (key_again v key.Steps (decimal l.max_s) 3 g2 has.steps refl (number_fits 1 8 l.max_s (omega (arith, s)) (omega (arith, s)) (omega arith)) (untaken v key.Steps (decimal l.max_s) refl refl))
      ∙ step v g3 g4 4 (codes "chunks=" ++ decimal l.max_c) r5 (key_again v key.Chunks (decimal l.max_c) 4 g3 has.chunks refl (number_fits 1 16 l.max_c (omega (arith, c)) (omega (arith, c)) (omega arith)) (untaken v key.Chunks (decimal l.max_c) refl refl))
      ∙ step v g4 (first_given kind l) 5 (codes "conflicts=" ++ decimal l.conflicts) rest (key_again v key.Conflicts (decimal l.conflicts) 5 g4 has.conflicts refl (number_fits 1 100000 l.conflicts (omega (arith, n)) (omega (arith, n)) (omega arith)) (untaken v key.Conflicts (decimal l.conflicts) refl refl))

  root_again : (b : Bool) (name : List ℕ) (more last : List (List ℕ)) → is_name name ≡ true
      → given_from v (first_given kind l) 6 (((if b then (codes "root=" ++ name) ∷ [] else []) ++ more) ++ last) ≡ given_from v (with_root b name (first_given kind l)) (words_before b) (more ++ last)
  root_again true name more last is =
      step v (first_given kind l) (with_root true name (first_given kind l)) 6 (codes "root=" ++ name) (more ++ last)
      (key_again v key.Root name 6 (first_given kind l) has.root refl is (untaken v key.Root name refl refl))
  root_again false name more last is = refl

-- the root as the words name it
abbrev pub root_word : List (List ℕ) → WordsValue → Option RootWord
root_word names w = if takes_root w.collective.kind then Some (record { name = name_at names w.collective.root; word = 6 }) else None

module _ (v : Verb) (has : Searches v) (names : List (List ℕ)) (w : WordsValue) (named : AreNames names) (ok : IsWords (length names) w) (taken : is_refused v key.Collective (word_of w.collective.kind) ≡ false) where
  front_again : (last : List (List ℕ))
      → given_from v [] 1 (drop 1 (synth_words names w) ++ last)
      ≡ given_from v (with_root (takes_root w.collective.kind) (name_at names w.collective.root) (first_given w.collective.kind w.limits)) (words_before (takes_root w.collective.kind)) (pruning_words w.limits.pruning ++ last)
  front_again last =
      let b : Bool = takes_root w.collective.kind in
      let name : List ℕ = name_at names w.collective.root in
      limits_again v has w.collective.kind w.limits ok.limits taken ((root_words names w ++ pruning_words w.limits.pruning) ++ last)
      ∙ root_again v has w.collective.kind w.limits ok.limits taken b name (pruning_words w.limits.pruning) last (root_is_name names w.collective.root named ok.root)

-- ---- the commands

-- the limits, where this may be left out
abbrev limits_with : LimitsValue → Pruning → LimitsValue
limits_with l p = record l { pruning = p }

-- what is read of the words behind the limits, and what is made of it
abbrev made : Verb → Bool → List ℕ → Kind → LimitsValue → List (List ℕ) → ℕ → Result Command WordFault
made v b name kind l words count = given_from v (with_root b name (first_given kind l)) (words_before b) words >>= (λ g. command_from v g count)

module _ (kind : Kind) (name : List ℕ) (l : LimitsValue) (ok : IsLimits l) (count : ℕ) where
  k_is : digits_value 10 (decimal l.k) ≡ l.k
  k_is = let few = ok.k in value_of_decimal l.k (omega (arith, few))

  steps_are : digits_value 10 (decimal l.max_s) ≡ l.max_s
  steps_are = let few = ok.steps in value_of_decimal l.max_s (omega (arith, few))

  chunks_are : digits_value 10 (decimal l.max_c) ≡ l.max_c
  chunks_are = let few = ok.chunks in value_of_decimal l.max_c (omega (arith, few))

  conflicts_are : digits_value 10 (decimal l.conflicts) ≡ l.conflicts
  conflicts_are = let few = ok.conflicts in value_of_decimal l.conflicts (omega (arith, few))

  abbrev Synthesised : Bool → Bool → Bool → Bool → Type 0
  Synthesised b cuts ordered kept =
      made verb.Synth b name kind l (pruning_words (record { cuts = cuts; ordered = ordered }) ++ word_if (codes "kept=yes") kept) count
      ≡ Ok (command.Synth kind 1 (limits_with l (record { cuts = cuts; ordered = ordered })) (root_named b name) kept)

  synth_made : (b cuts ordered kept : Bool) → takes_root kind ≡ b → Synthesised b cuts ordered kept
  synth_made true true true true e = rw (kind_found kind, k_is, steps_are, chunks_are, conflicts_are, e) refl
  synth_made true true true false e = rw (kind_found kind, k_is, steps_are, chunks_are, conflicts_are, e) refl
  synth_made true true false true e = rw (kind_found kind, k_is, steps_are, chunks_are, conflicts_are, e) refl
  synth_made true true false false e = rw (kind_found kind, k_is, steps_are, chunks_are, conflicts_are, e) refl
  synth_made true false true true e = rw (kind_found kind, k_is, steps_are, chunks_are, conflicts_are, e) refl
  synth_made true false true false e = rw (kind_found kind, k_is, steps_are, chunks_are, conflicts_are, e) refl
  synth_made true false false true e = rw (kind_found kind, k_is, steps_are, chunks_are, conflicts_are, e) refl
  synth_made true false false false e = rw (kind_found kind, k_is, steps_are, chunks_are, conflicts_are, e) refl
  synth_made false true true true e = rw (kind_found kind, k_is, steps_are, chunks_are, conflicts_are) refl
  synth_made false true true false e = rw (kind_found kind, k_is, steps_are, chunks_are, conflicts_are) refl
  synth_made false true false true e = rw (kind_found kind, k_is, steps_are, chunks_are, conflicts_are) refl
  synth_made false true false false e = rw (kind_found kind, k_is, steps_are, chunks_are, conflicts_are) refl
  synth_made false false true true e = rw (kind_found kind, k_is, steps_are, chunks_are, conflicts_are) refl
  synth_made false false true false e = rw (kind_found kind, k_is, steps_are, chunks_are, conflicts_are) refl
  synth_made false false false true e = rw (kind_found kind, k_is, steps_are, chunks_are, conflicts_are) refl
  synth_made false false false false e = rw (kind_found kind, k_is, steps_are, chunks_are, conflicts_are) refl

  bound_made : (b all_sets : Bool) → takes_root kind ≡ b → made verb.Bound b name kind l (word_if (codes "sets=all") all_sets) count ≡ Ok (command.Bound kind 1 (limits_with l unpruned) (root_named b name) all_sets)
  bound_made true true e = rw (kind_found kind, k_is, steps_are, chunks_are, conflicts_are, e) refl
  bound_made true false e = rw (kind_found kind, k_is, steps_are, chunks_are, conflicts_are, e) refl
  bound_made false true e = rw (kind_found kind, k_is, steps_are, chunks_are, conflicts_are) refl
  bound_made false false e = rw (kind_found kind, k_is, steps_are, chunks_are, conflicts_are) refl

  ordered_made : (b : Bool) → takes_root kind ≡ b → made verb.Ordered b name kind l [] count ≡ Ok (command.Ordered kind 1 (limits_with l unpruned) (root_named b name))
  ordered_made true e = rw (kind_found kind, k_is, steps_are, chunks_are, conflicts_are, e) refl
  ordered_made false e = rw (kind_found kind, k_is, steps_are, chunks_are, conflicts_are) refl

pub synth_asked : (names : List (List ℕ)) (w : WordsValue) (kept : Bool) → AreNames names → IsWords (length names) w
    → command_of (search_words (codes "synth") names w (codes "kept=yes") kept) ≡ Ok (command.Synth w.collective.kind 1 w.limits (root_word names w) kept)
unfolding command_of
synth_asked names w kept names_are ok =
    let kind : Kind = w.collective.kind in
    let last : List (List ℕ) = word_if (codes "kept=yes") kept in
    let count : ℕ = length (drop 1 (synth_words names w) ++ last) + 1 in
    let has : Searches verb.Synth = record { collective = refl; k = refl; steps = refl; chunks = refl; conflicts = refl; root = refl } in
    ap (λ r. r >>= (λ g. command_from verb.Synth g count)) (front_again verb.Synth has names w names_are ok refl last)
    ∙ synth_made kind (name_at names w.collective.root) w.limits ok.limits count (takes_root kind) w.limits.pruning.cuts w.limits.pruning.ordered kept refl

-- ---- the other searches

-- they take every kind but an allreduce
single_taken : (kind : Kind) → kind ≢ Allreduce → is_refused verb.Bound key.Collective (word_of kind) ≡ false
single_taken Allreduce single = absurd (single refl)
single_taken _ single = refl

pub bound_asked : (names : List (List ℕ)) (w : WordsValue) (all_sets : Bool) → AreNames names → IsWords (length names) w → w.collective.kind ≢ Allreduce → w.limits.pruning ≡ unpruned
    → command_of (search_words (codes "bound") names w (codes "sets=all") all_sets) ≡ Ok (command.Bound w.collective.kind 1 w.limits (root_word names w) all_sets)
unfolding command_of
bound_asked names w all_sets names_are ok single whole =
    let kind : Kind = w.collective.kind in
    let b : Bool = takes_root kind in
    let name : List ℕ = name_at names w.collective.root in
    let last : List (List ℕ) = word_if (codes "sets=all") all_sets in
    let count : ℕ = length (drop 1 (synth_words names w) ++ last) + 1 in
    let has : Searches verb.Bound = record { collective = refl; k = refl; steps = refl; chunks = refl; conflicts = refl; root = refl } in
    ap (λ r. r >>= (λ g. command_from verb.Bound g count)) (front_again verb.Bound has names w names_are ok (single_taken kind single) last)
    ∙ ap (λ p. made verb.Bound b name kind w.limits (pruning_words p ++ last) count) whole
    ∙ bound_made kind name w.limits ok.limits count b all_sets refl
    ∙ ap (λ p. Ok (command.Bound kind 1 (limits_with w.limits p) (root_word names w) all_sets)) (sym whole)

pub ordered_asked : (names : List (List ℕ)) (w : WordsValue) → AreNames names → IsWords (length names) w → w.collective.kind ≢ Allreduce → w.limits.pruning ≡ unpruned
    → command_of (search_words (codes "ordered") names w [] false) ≡ Ok (command.Ordered w.collective.kind 1 w.limits (root_word names w))
unfolding command_of
ordered_asked names w names_are ok single whole =
    let kind : Kind = w.collective.kind in
    let b : Bool = takes_root kind in
    let name : List ℕ = name_at names w.collective.root in
    let count : ℕ = length (drop 1 (synth_words names w) ++ []) + 1 in
    let has : Searches verb.Ordered = record { collective = refl; k = refl; steps = refl; chunks = refl; conflicts = refl; root = refl } in
    ap (λ r. r >>= (λ g. command_from verb.Ordered g count)) (front_again verb.Ordered has names w names_are ok (single_taken kind single) [])
    ∙ ap (λ p. made verb.Ordered b name kind w.limits (pruning_words p ++ []) count) whole
    ∙ ordered_made kind name w.limits ok.limits count b refl
    ∙ ap (λ p. Ok (command.Ordered kind 1 (limits_with w.limits p) (root_word names w))) (sym whole)

-- ---- a fault

pub degrade_asked : (group width : ℕ) → group ≤ 255 → width ≤ 16 → command_of (codes "degrade" ∷ (codes "group=" ++ decimal group) ∷ (codes "width=" ++ decimal width) ∷ []) ≡ Ok (command.Degrade group 1 width 2)
unfolding command_of
degrade_asked group width few narrow =
    let group_is : digits_value 10 (decimal group) ≡ group = value_of_decimal group (omega arith) in
    let width_is : digits_value 10 (decimal width) ≡ width = value_of_decimal width (omega arith) in
    let g1 : List Given = record { key = key.Group; text = decimal group; word = 1 } ∷ [] in
    let g2 : List Given = record { key = key.Width; text = decimal width; word = 2 } ∷ g1 in
    ap (λ r. r >>= (λ g. command_from verb.Degrade g 3)) (
    step verb.Degrade [] g1 1 (codes "group=" ++ decimal group) ((codes "width=" ++ decimal width) ∷ []) (key_again verb.Degrade key.Group (decimal group) 1 [] refl refl (number_fits 0 255 group (omega arith) few (omega arith)) refl)
    ∙ step verb.Degrade g1 g2 2 (codes "width=" ++ decimal width) [] (key_again verb.Degrade key.Width (decimal width) 2 g1 refl refl (number_fits 0 16 width (omega arith) narrow (omega arith)) refl))
    ∙ rw (group_is, width_is) refl
