-- The one spelling of a report. This project's own.
use Rattle.std.specs.{Prelude.{ℕ, Bool, if◌then◌else◌, List, [], ◌∷◌, ◌++◌, map, codes, decimal}, List.flat_map}
use Rattle.outer_ports.specs.declared.part.Part.{Part}
use Rattle.outer_ports.specs.declared.part.Part.TheVariants as part
use Rattle.schedule.specs.declared.hop.Hop.{Hop}
use Rattle.collective_spec.specs.{declared.kind.Kind.Kind, Kinds.{word_of, takes_root}}
use Rattle.collective_spec.specs.declared.kind.Kind.TheVariants as kind
use Rattle.candidate_order.specs.{declared.{candidate.Candidate.Candidate, mark.Mark.Mark, pruning.Pruning.Pruning}, Frontiers.{PointValue, UnknownValue, FrontierValue}}
use Rattle.candidate_order.specs.declared.mark.Mark.TheVariants as mark
use Rattle.text_lines.specs.Text.{text_of}
use Rattle.topology_text.specs.Spelling.{lines_of, name_at, version_word}
use Rattle.report_form.specs.Reports.{WordsValue, ReportValue}

-- the word, where it is said
abbrev pub word_if : List ℕ → Bool → List (List ℕ)
word_if word said = if said then word ∷ [] else []

-- `synth`, and each key with its value: the root by its name, where the collective takes one, and what may be left out, each by a word of its own
abbrev pub synth_words : List (List ℕ) → WordsValue → List (List ℕ)
synth_words names w =
    codes "synth" ∷ (codes "collective=" ++ word_of w.collective.kind) ∷ (codes "k=" ++ decimal w.limits.k) ∷ (codes "steps=" ++ decimal w.limits.max_s)
    ∷ (codes "chunks=" ++ decimal w.limits.max_c) ∷ (codes "conflicts=" ++ decimal w.limits.conflicts)
    ∷ (word_if (codes "root=" ++ name_at names w.collective.root) (takes_root w.collective.kind) ++ (word_if (codes "cuts=yes") w.limits.pruning.cuts ++ word_if (codes "ordered=yes") w.limits.pruning.ordered))

abbrev pub mark_words : Mark → List (List ℕ)
mark_words mark.Optimal = codes "optimal" ∷ []
mark_words mark.Open = codes "open" ∷ []
mark_words (mark.Joined adding) = codes "joined" ∷ decimal adding ∷ []

-- the steps, the rounds and the chunk count
abbrev pub candidate_words : Candidate → List (List ℕ)
candidate_words x = decimal x.s ∷ decimal x.r ∷ decimal x.c ∷ []

abbrev pub send_words : List (List ℕ) → Hop → List (List ℕ)
send_words names h = codes "send" ∷ decimal h.chunk ∷ name_at names h.from ∷ name_at names h.to ∷ decimal h.step ∷ []

-- a point: its candidate and mark, its rounds, and its sends
abbrev pub point_lines : List (List ℕ) → PointValue → List (List (List ℕ))
point_lines names p =
    (codes "point" ∷ candidate_words p.candidate ++ mark_words p.mark) ∷ (codes "rounds" ∷ map decimal p.schedule.rounds) ∷ map (send_words names) p.schedule.sends

abbrev pub refuted_words : Candidate → List (List ℕ)
refuted_words x = codes "refuted" ∷ candidate_words x

abbrev pub unknown_words : UnknownValue → List (List ℕ)
unknown_words u = codes "unknown" ∷ candidate_words u.candidate ++ decimal u.conflicts ∷ []

-- the line that begins a part
abbrev pub part_words : Part → List (List ℕ)
part_words part.Whole = codes "frontier" ∷ codes "whole" ∷ []
part_words part.Reduce = codes "frontier" ∷ codes "reduce" ∷ []
part_words part.Gather = codes "frontier" ∷ codes "gather" ∷ []
part_words part.Joined = codes "joined" ∷ []

-- a part: its points, then what is refuted, then what is unknown
abbrev pub frontier_lines : List (List ℕ) → Part × FrontierValue → List (List (List ℕ))
frontier_lines names x =
    part_words x.0 ∷ (flat_map (point_lines names) x.1.points ++ (map refuted_words x.1.refuted ++ map unknown_words x.1.unknown))

-- only an allreduce has joined points
abbrev pub joined_lines : List (List ℕ) → Kind → List PointValue → List (List (List ℕ))
joined_lines names kind.Allreduce joined = part_words part.Joined ∷ flat_map (point_lines names) joined
joined_lines names _ joined = []

-- the tokens of each line
abbrev pub report_lines : ReportValue → List (List (List ℕ))
report_lines r =
    (codes "sccl" ∷ version_word r.topology.custom ∷ []) ∷ synth_words r.topology.names r.words
    ∷ (lines_of r.topology ++ ((flat_map (frontier_lines r.topology.names) r.frontiers ++ joined_lines r.topology.names r.words.collective.kind r.joined) ++ (codes "end" ∷ []) ∷ []))

unfoldable pub report_text : ReportValue → List ℕ
report_text r = text_of (report_lines r)

-- ---- pieces, as contracts of the code that prints them have them

-- the root by its name, where the collective takes one
abbrev pub root_words : List (List ℕ) → WordsValue → List (List ℕ)
root_words names w = if takes_root w.collective.kind then (codes "root=" ++ name_at names w.collective.root) ∷ [] else []

-- what may be left out, each by a word of its own
abbrev pub pruning_words : Pruning → List (List ℕ)
pruning_words p = word_if (codes "cuts=yes") p.cuts ++ word_if (codes "ordered=yes") p.ordered

-- the line of a point's candidate and its mark
abbrev pub point_words : PointValue → List (List ℕ)
point_words p = codes "point" ∷ candidate_words p.candidate ++ mark_words p.mark

abbrev pub rounds_words : List ℕ → List (List ℕ)
rounds_words rounds = codes "rounds" ∷ map decimal rounds

-- the lines behind the topology, but for the last
abbrev pub body_lines : ReportValue → List (List (List ℕ))
body_lines r = flat_map (frontier_lines r.topology.names) r.frontiers ++ joined_lines r.topology.names r.words.collective.kind r.joined
