-- The JSON of a report and the lines that it stands for, in one table. The form is this project's own.
use Rattle.std.specs.Prelude.{ℕ, Bool, if◌then◌else◌, List, [], ◌∷◌, map, slice_index_or, Option, Some, None, is_some, codes}
use Rattle.outer_ports.specs.declared.part.Part.{Part}
use Rattle.schedule.specs.declared.hop.Hop.{Hop}
use Rattle.collective_spec.specs.Kinds.{word_of, takes_root, every_kind}
use Rattle.candidate_order.specs.{declared.mark.Mark.Mark, Frontiers.{PointValue, FrontierValue}}
use Rattle.candidate_order.specs.declared.mark.Mark.TheVariants as mark
use Rattle.topology_text.specs.Spelling.{name_at}
use Rattle.report_form.specs.{Reports.{WordsValue, ReportValue}, Spelling.{mark_words, part_words}}
use Rattle.serde_json.specs.Find.{as_array, get}
use Rattle.json_values.specs.{Shape.{◌>>=◌, headed}, Forms.{Form, count, name, word, via, with_key, lined, each, row_read, row, Part as Members, seen, at, at_if, ◌&◌, line_of, fields, says_word}, TopologyForm.{version, topology}}

-- ---- points

-- the chunk, the two nodes and the step
abbrev pub send : List (List ℕ) → Form (List (List ℕ)) Hop
send names = lined (codes "send") (row (via (λ h. h.chunk) count ∷ via (λ h. name_at names h.from) name ∷ via (λ h. name_at names h.to) name ∷ via (λ h. h.step) count ∷ []))

abbrev pub adding_in : Mark → Option ℕ
adding_in (mark.Joined adding) = Some adding
adding_in _ = None

-- a joined point has one key more, and one token
abbrev pub point : List (List ℕ) → Form (List (List ℕ)) PointValue
point names =
    let marks = word (codes "optimal" ∷ codes "open" ∷ codes "joined" ∷ []) in
    let adding : Members (List ℕ) PointValue = at_if (says_word (codes "mark") marks.read (codes "joined")) (codes "adding") (λ p. adding_in p.mark) count in
    fields (line_of (codes "point") (at (codes "s") (λ p. p.candidate.s) count & at (codes "r") (λ p. p.candidate.r) count & at (codes "c") (λ p. p.candidate.c) count & at (codes "mark") (λ p. slice_index_or (mark_words p.mark) 0 []) marks & adding)
    & line_of (codes "rounds") (at (codes "rounds") (λ p. p.schedule.rounds) (each count)) & at (codes "sends") (λ p. p.schedule.sends) (each (send names)))

-- ---- frontiers

-- a row of numbers
abbrev pub counts : {X : Type 0} → List (X → ℕ) → Form (List ℕ) X
counts parts = row (map (λ part. via part count) parts)

abbrev pub frontier : List (List ℕ) → Form (List (List ℕ)) (Part × FrontierValue)
frontier names =
    let parts = word (codes "whole" ∷ codes "reduce" ∷ codes "gather" ∷ []) in
    fields (line_of (codes "frontier") (at (codes "part") (λ x. slice_index_or (part_words x.0) 1 (codes "joined")) parts) & at (codes "points") (λ x. x.1.points) (each (point names))
    & at (codes "refuted") (λ x. x.1.refuted) (each (lined (codes "refuted") (counts ((λ y. y.s) ∷ (λ y. y.r) ∷ (λ y. y.c) ∷ []))))
    & at (codes "unknown") (λ x. x.1.unknown) (each (lined (codes "unknown") (counts ((λ u. u.candidate.s) ∷ (λ u. u.candidate.r) ∷ (λ u. u.candidate.c) ∷ (λ u. u.conflicts) ∷ [])))))

-- ---- the words

abbrev pub keyed : {X Y : Type 0} → List ℕ → (X → Y) → Form (List ℕ) Y → Members (List ℕ) X
keyed key part form = at key part (with_key key form)

-- a key that may be left out
abbrev pub may : {X Y : Type 0} → List ℕ → (X → Bool) → (X → Y) → Form (List ℕ) Y → Members (List ℕ) X
may key has part form = at_if (λ d. is_some (get key d)) key (λ x. if has x then Some (part x) else None) (with_key key form)

abbrev pub kinds : Form (List ℕ) (List ℕ)
kinds = word (map word_of every_kind)

abbrev pub words : List (List ℕ) → Form (List (List ℕ)) WordsValue
words names =
    let said = λ (key : List ℕ) (has : WordsValue → Bool). may key has (λ w. codes "yes") (word (codes "yes" ∷ [])) in
    fields (line_of (codes "synth") (keyed (codes "collective") (λ w. word_of w.collective.kind) kinds & keyed (codes "k") (λ w. w.limits.k) count & keyed (codes "steps") (λ w. w.limits.max_s) count
    & keyed (codes "chunks") (λ w. w.limits.max_c) count & keyed (codes "conflicts") (λ w. w.limits.conflicts) count
    & may (codes "root") (λ w. takes_root w.collective.kind) (λ w. name_at names w.collective.root) name & said (codes "cuts") (λ w. w.limits.pruning.cuts) & said (codes "ordered") (λ w. w.limits.pruning.ordered)))

-- ---- the whole

-- the points of an allreduce; another collective has none
abbrev pub joined : List (List ℕ) → Members (List (List ℕ)) ReportValue
joined names =
    let points : Members (List (List ℕ)) ReportValue = at (codes "joined") (λ r. r.joined) (each (point names)) in
    let joins = says_word (codes "words") (λ w. get (codes "collective") w >>= kinds.read) (codes "allreduce") in
    record points { read = λ d. if joins d then headed (codes "joined" ∷ []) (points.read d) else get (codes "joined") d >>= λ v. as_array v >>= row_read [] }

-- the names are those of its nodes
abbrev pub report : List (List ℕ) → Form (List (List ℕ)) ReportValue
report names =
    let version_seen : Members (List ℕ) ReportValue = seen (λ d. get (codes "topology") d >>= λ t. get (codes "version") t >>= version.read) in
    fields (line_of (codes "sccl") version_seen & at (codes "words") (λ r. r.words) (words names) & at (codes "topology") (λ r. r.topology) (topology names)
    & at (codes "frontiers") (λ r. r.frontiers) (each (frontier names)) & joined names & seen (λ d. Some ((codes "end" ∷ []) ∷ [])))
