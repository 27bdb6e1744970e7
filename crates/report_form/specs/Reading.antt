-- The checks of a report's text, line by line: each line's shape first, and then the rules that a line of the right shape has to keep. This project's own text.
use Rattle.std.specs.{Prelude.{◌==◌, ◌&&◌, not, ℕ, Bool, true, false, if◌then◌else◌, List, [], ◌∷◌, map, codes, Option, None, Some, bytes_eq, Result, Ok}, List.last_or}
use Rattle.text_lines.specs.{Text.{Row, Place, start, rows_of}, Check.{◌>>=◌, refuse, need, at_line, line_part}, Repeated.{lines_at, parts_at}}
use Rattle.outer_ports.specs.declared.part.Part.{Part, TheVariants.{Whole, Reduce, Gather, Joined}}
use Rattle.collective_spec.specs.declared.kind.Kind.{Kind}
use Rattle.collective_spec.specs.declared.kind.Kind.TheVariants as kind
use Rattle.candidate_order.specs.{declared.candidate.Candidate.Candidate, Frontiers.{QuestionValue, PointValue, UnknownValue, FrontierValue}}
use Rattle.topology_text.specs.{Value.{NamedTopologyValue, named_with}, Reading.{header_line, nodes_line, groups_at, pattern_at}}
use Rattle.report_form.specs.{declared.fault.ReportCode.ReportCode, Reports.{WordsValue, ReportValue, parts_of, question_of}, Tests.{is_within, comes_next}, Fields.{any_number, next_word, fixed_word, no_more}}
use Rattle.report_form.specs.{SynthLine.{asked_line, root_of, words_from}, Lines.{whole_line, tokens_line, fixed_line, no_line, among}, Points.{candidate_from, frontier_point_at, joined_point_at}}
use Rattle.report_form.specs.declared.fault.ReportCode.TheVariants as code

-- ---- lines of candidates without a schedule

-- the shape of a refuted candidate's line
abbrev pub refuted_from : List (List ℕ) → Result Candidate ReportCode
refuted_from words = do
  a ← fixed_word (codes "refuted") words
  x ← candidate_from a
  _ ← no_more x.1
  Ok x.0

abbrev pub refuted_line : QuestionValue → List Candidate → Option Row → Result Candidate ReportCode
refuted_line q before line = do
  words ← tokens_line line
  x ← refuted_from words
  _ ← refuse (not (is_within q x && comes_next (last_or None before) x)) code.Limits
  Ok x

-- the shape of an unknown candidate's line; its conflicts may be of any size
abbrev pub unknown_from : List (List ℕ) → Result UnknownValue ReportCode
unknown_from words = do
  a ← fixed_word (codes "unknown") words
  x ← candidate_from a
  conflicts ← next_word any_number x.1
  _ ← no_more conflicts.1
  Ok (record { candidate = x.0; conflicts = conflicts.0 })

abbrev pub unknown_line : QuestionValue → List UnknownValue → Option Row → Result UnknownValue ReportCode
unknown_line q before line = do
  words ← tokens_line line
  u ← unknown_from words
  _ ← refuse (not (is_within q u.candidate && comes_next (last_or None (map (λ x. x.candidate) before)) u.candidate && u.conflicts == q.limits.conflicts)) code.Limits
  Ok u

-- ---- the parts of a report

-- the line that begins a part
abbrev pub part_bytes : Part → List ℕ
part_bytes Whole = codes "frontier whole"
part_bytes Reduce = codes "frontier reduce"
part_bytes Gather = codes "frontier gather"
part_bytes Joined = codes "joined"

-- the points, then what is refuted, then what is unknown
unfoldable pub frontier_at : List (List ℕ) → QuestionValue → Part → Place → Result (FrontierValue × Place) (ReportCode × ℕ)
frontier_at names q part p = do
  head ← line_part (fixed_line (part_bytes part)) p
  points ← parts_at (codes "point ") (frontier_point_at names q) head.1
  refuted ← lines_at (codes "refuted ") (refuted_line q) points.1
  unknown ← lines_at (codes "unknown ") (unknown_line q) refuted.1
  Ok (record { points = points.0; refuted = refuted.0; unknown = unknown.0 }, unknown.1)

-- a frontier for each of these parts
abbrev pub frontiers_from : WordsValue → NamedTopologyValue → List Part → Place → Result (List (Part × FrontierValue) × Place) (ReportCode × ℕ)
frontiers_from words t [] p = Ok ([], p)
frontiers_from words t (part ∷ parts) p = do
  frontier ← frontier_at t.names (question_of words t part) part p
  rest ← frontiers_from words t parts frontier.1
  Ok ((part, frontier.0) ∷ rest.0, rest.1)

-- only an allreduce has joined points
abbrev pub joined_at : Kind → WordsValue → NamedTopologyValue → Place → Result (List PointValue × Place) (ReportCode × ℕ)
joined_at kind.Allreduce words t p = do
  head ← line_part (fixed_line (part_bytes Joined)) p
  parts_at (codes "point ") (joined_point_at t.names (question_of words t Joined)) head.1
joined_at _ words t p = Ok ([], p)

-- ---- the whole

-- the frontiers, the joined points, and the end
unfoldable pub body_of : WordsValue → NamedTopologyValue → Place → Result ReportValue (ReportCode × ℕ)
body_of words t p = do
  frontiers ← frontiers_from words t (parts_of words.collective.kind) p
  joined ← joined_at words.collective.kind words t frontiers.1
  end ← line_part (fixed_line (codes "end")) joined.1
  _ ← line_part no_line end.1
  Ok (record { words = words; topology = t; frontiers = frontiers.0; joined = joined.0 })

-- the first line: whether it is of version 2, where a pattern stands behind the groups
abbrev pub version_of : List ℕ → Option Bool
version_of bytes = if bytes_eq bytes (codes "sccl 1") then Some false else (if bytes_eq bytes (codes "sccl 2") then Some true else None)

abbrev pub version_line : Option Row → Result Bool ReportCode
version_line line = do
  row ← whole_line line
  need (version_of row.bytes) code.BadLine

-- both are of the same version
abbrev pub is_same : Bool → Bool → Bool
is_same a b = if a then b else not b

-- the report whose text this is, or the first check that fails and the number of its line
unfoldable pub report_of : List ℕ → Result ReportValue (ReportCode × ℕ)
report_of text = do
  head ← line_part version_line (start text)
  asked ← line_part (asked_line head.0) head.1
  header ← among (rows_of text) (line_part header_line asked.1)
  _ ← at_line asked.1.number (refuse (not (is_same header.0 head.0)) code.BadLine)
  names ← among (rows_of text) (line_part nodes_line header.1)
  root ← at_line header.1.number (root_of names.0 asked.0.root)
  groups ← among (rows_of text) (groups_at names.0 names.1)
  pattern ← among (rows_of text) (pattern_at head.0 names.0 groups.1)
  body_of (words_from asked.0 root) (named_with names.0 groups.0 pattern.0) pattern.1
