-- What the words and the text that is read ask for, or the first check that refuses them: words, length, text, root or point, size, candidates. This project's own.
use Rattle.std.specs.Prelude.{ℕ, ◌==◌, ◌&&◌, not, Bool, true, false, if◌then◌else◌, List, [], length, nat_lt, slice_get, Option, None, Some, Result, Ok, Err}
use Rattle.outer_ports.specs.declared.part.Part.{Part, TheVariants.Whole}
use Rattle.text_lines.specs.Check.{◌>>=◌, refuse, need}
use Rattle.serde_json.specs.Data.{Data}
use Rattle.collective_spec.specs.{declared.kind.Kind.{Kind, TheVariants.Allreduce}, Collectives.fits_kind}
use Rattle.candidate_order.specs.Frontiers.{QuestionValue, PointValue}
use Rattle.topology_text.specs.{Value.NamedTopologyValue, Answer.topology_number, Reading.{topology_of, node_of}, Spelling.spelling}
use Rattle.topology_families.specs.Family.{family_of}
use Rattle.report_form.specs.{declared.fault.ReportCode.ReportCode, Reports.{WordsValue, ReportValue, question_of}, Numbered.point_at, Reading.report_of, Answer.report_number, Spelling.report_text}
use Rattle.round_encoding.specs.Candidates.{size_limit}
use Rattle.candidate_formula.specs.{Sizes.size_of, Counts.chunk_counts}
use Rattle.node_programs.specs.Programs.{programs_of}
use Rattle.replay_text.specs.{Showing.{adding_of, nodes_of, shown_in, shown_text}, Points.programs_of_point}
use Rattle.json_values.specs.{Answer.json_number, Json.printed, Reading.read_json, TopologyForm.topology as topology_form}
use Rattle.json_rules.specs.{ReportForm.report as report_form, ProgramsJson.programs_json}
use Rattle.command_words.specs.{declared.{command.{JsonWhat.JsonWhat, RootWord.RootWord, SearchWords.SearchWords, PointWord.PointWord, Command.Command}, fault.WordFault.WordFault}, Words.command_of}
use Rattle.command_words.specs.declared.fault.WordCode.TheVariants.{KeyMissing, UnknownRoot, UnknownPoint, CustomMismatch, ReportNotTaken, UnknownGroup, NotNarrower}
use Rattle.command_words.specs.declared.command.JsonWhat.TheVariants as what
use Rattle.command_words.specs.declared.command.Command.TheVariants as command
use Rattle.node_cuts.specs.declared.sets.Sets.{Sets, TheVariants.{Listed, All}}
use Rattle.run_rules.specs.{declared.status.Status.TheVariants.{BadTopology, BadReport, TooLarge, NoCandidate, TooLong, BadJson}, Commands.reads_source, Refusals.{Refusal, refused_at, refused_as, refused_word}}

-- what is to be done, with all that it needs: of a search also whether proofs that stand there are kept, of bounds which sets of nodes are looked at
pub data Task : Type 0 where
  Write : List ℕ → Task
  Synthesise : WordsValue → NamedTopologyValue → Bool → Task
  Audit : ReportValue → Task
  Try : ℕ → Task
  Bound : WordsValue → NamedTopologyValue → Sets → Task
  Order : WordsValue → NamedTopologyValue → Task
  Degrade : ReportValue → ℕ → ℕ → Task

-- ---- the length

-- the greatest number of bytes that are read
abbrev pub limit : ℕ
limit = 1048576

-- ---- searches

-- the node that the word names; the first node where there is no word
abbrev pub root_in : List (List ℕ) → Option RootWord → Result ℕ Refusal
root_in names None = Ok 0
root_in names (Some root) = need (node_of names root.name) (refused_word UnknownRoot root.word)

-- the search is small enough, and has a candidate
abbrev pub searchable : QuestionValue → Result (Unit {0}) Refusal
searchable q = do
  _ ← refuse (nat_lt size_limit (size_of q)) (refused_at TooLarge 0 (size_of q))
  refuse (length (chunk_counts q) == 0) (refused_at NoCandidate 0 0)

-- the search of these words over the topology that the bytes spell: one with a pattern is for the kind custom, and only it
abbrev pub search_asked : SearchWords → List ℕ → Result (WordsValue × NamedTopologyValue) Refusal
search_asked asked bytes = do
  t ← refused_as BadTopology topology_number (topology_of bytes)
  _ ← refuse (not (fits_kind asked.kind t.custom)) (refused_word CustomMismatch asked.kind_word)
  root ← root_in t.names asked.root
  let w : WordsValue = record { collective = record { kind = asked.kind; root = root }; limits = asked.limits }
  _ ← searchable (question_of w t Whole)
  Ok (w, t)

-- every set of nodes, or the listed ones
abbrev pub given_sets : Bool → Sets
given_sets all_sets = if all_sets then All else Listed

-- ---- reports

abbrev pub is_allreduce : Kind → Bool
is_allreduce Allreduce = true
is_allreduce _ = false

-- what each text is read as
abbrev pub Reader : Type 0
Reader = List ℕ → Result ReportValue (ReportCode × ℕ)

-- a fault of a group that the report has, and that it narrows
abbrev pub fault_in : ReportValue → ℕ → ℕ → ℕ → ℕ → Result (Unit {0}) Refusal
fault_in report group group_word width width_word = do
  _ ← refuse (is_allreduce report.words.collective.kind) (refused_word ReportNotTaken 0)
  old ← need (slice_get report.topology.topology.groups group) (refused_word UnknownGroup group_word)
  refuse (not (nat_lt width old.width)) (refused_word NotNarrower width_word)

-- ---- what is due

-- what a command asks for, over bytes that came whole
abbrev pub task_by : Reader → Command → List ℕ → Result Task Refusal
task_by read (command.Synth kind word limits root kept) bytes = do
  (w, t) ← search_asked (record { kind = kind; kind_word = word; limits = limits; root = root }) bytes
  Ok (Synthesise w t kept)
task_by read command.Check bytes = do
  report ← refused_as BadReport report_number (read bytes)
  _ ← searchable (question_of report.words report.topology Whole)
  Ok (Audit report)
task_by read (command.Replay number word order) bytes = do
  report ← refused_as BadReport report_number (read bytes)
  point ← need (point_at report number) (refused_word UnknownPoint word)
  Ok (Write (shown_text number (shown_in report point) order))
task_by read (command.Programs number word) bytes = do
  report ← refused_as BadReport report_number (read bytes)
  point ← need (point_at report number) (refused_word UnknownPoint word)
  Ok (Write (programs_of_point report number point))
task_by read (command.Family kind size) bytes = Ok (Write (spelling (family_of kind size)))
task_by read (command.Trial n) bytes = Ok (Try n)
task_by read (command.Bound kind word limits root all_sets) bytes = do
  (w, t) ← search_asked (record { kind = kind; kind_word = word; limits = limits; root = root }) bytes
  Ok (Bound w t (given_sets all_sets))
task_by read (command.Ordered kind word limits root) bytes = do
  (w, t) ← search_asked (record { kind = kind; kind_word = word; limits = limits; root = root }) bytes
  Ok (Order w t)
task_by read (command.Degrade group group_word width width_word) bytes = do
  report ← refused_as BadReport report_number (read bytes)
  _ ← fault_in report group group_word width width_word
  _ ← searchable (question_of report.words report.topology Whole)
  Ok (Degrade report group width)
task_by read (command.Json what.Topology point) bytes = do
  topology ← refused_as BadTopology topology_number (topology_of bytes)
  Ok (Write (printed ((topology_form topology.names).json topology)))
task_by read (command.Json what.Report point) bytes = do
  report ← refused_as BadReport report_number (read bytes)
  Ok (Write (printed ((report_form report.topology.names).json report)))
task_by read (command.Json what.Programs point) bytes = do
  report ← refused_as BadReport report_number (read bytes)
  asked ← need point (refused_word KeyMissing 0)
  found ← need (point_at report asked.point) (refused_word UnknownPoint asked.word)
  let s = shown_in report found in Ok (Write (printed (programs_json asked.point report.topology.names (programs_of (nodes_of s) found.1.schedule (adding_of s)))))
task_by read (command.Unjson what.Report) bytes = do
  report ← refused_as BadJson json_number (read_json (report_form []) read bytes)
  Ok (Write (report_text report))
task_by read (command.Unjson _) bytes = do
  topology ← refused_as BadJson json_number (read_json (topology_form []) topology_of bytes)
  Ok (Write (spelling topology))

-- the words are a command, or are refused
abbrev pub words_asked : Result Command WordFault → Result Command Refusal
words_asked (Ok c) = Ok c
words_asked (Err fault) = Err (refused_word fault.code fault.word)

-- the task, or the first refusal, as far as words, bytes and the reader of reports decide; what is read has to come whole
abbrev pub due_by : Reader → List (List ℕ) → List ℕ → Result Task Refusal
due_by read words bytes = do
  command ← words_asked (command_of words)
  _ ← refuse (reads_source (Ok command) && nat_lt limit (length bytes)) (refused_at TooLong 0 limit)
  task_by read command bytes

-- ---- steps of what is due, by names of their own

-- the report that the text is read as
abbrev pub report_by : Reader → List ℕ → Result ReportValue Refusal
report_by read bytes = refused_as BadReport report_number (read bytes)

-- the point that the word asks for
abbrev pub point_in : ReportValue → PointWord → Result (Part × PointValue) Refusal
point_in report asked = need (point_at report asked.point) (refused_word UnknownPoint asked.word)

-- the programs that carry the schedule of a point out, as JSON
abbrev pub programs_value : ReportValue → ℕ → Part × PointValue → Data
programs_value r number p = let s = shown_in r p in programs_json number r.topology.names (programs_of (nodes_of s) p.1.schedule (adding_of s))

-- those of the point that the word asks for, which stands there with programs
abbrev pub json_programs_in : ReportValue → Option PointWord → Result Task Refusal
json_programs_in report word = do
  asked ← need word (refused_word KeyMissing 0)
  point ← point_in report asked
  Ok (Write (printed (programs_value report asked.point point)))

-- ---- by the checks of a report's text, as the code reads it

abbrev pub read_report : List ℕ → Result ReportValue Refusal
read_report bytes = report_by report_of bytes

abbrev pub audit_asked : List ℕ → Result Task Refusal
audit_asked bytes = task_by report_of command.Check bytes

abbrev pub degrade_asked : ℕ → ℕ → ℕ → ℕ → List ℕ → Result Task Refusal
degrade_asked group group_word width width_word bytes = task_by report_of (command.Degrade group group_word width width_word) bytes

abbrev pub replay_asked : PointWord → Option ℕ → List ℕ → Result Task Refusal
replay_asked asked order bytes = task_by report_of (command.Replay asked.point asked.word order) bytes

abbrev pub programs_asked : PointWord → List ℕ → Result Task Refusal
programs_asked asked bytes = task_by report_of (command.Programs asked.point asked.word) bytes

abbrev pub json_asked : JsonWhat → Option PointWord → List ℕ → Result Task Refusal
json_asked value point bytes = task_by report_of (command.Json value point) bytes

abbrev pub unjson_asked : JsonWhat → List ℕ → Result Task Refusal
unjson_asked value bytes = task_by report_of (command.Unjson value) bytes

abbrev pub task_of : Command → List ℕ → Result Task Refusal
task_of command bytes = task_by report_of command bytes

unfoldable pub due : List (List ℕ) → List ℕ → Result Task Refusal
due words bytes = due_by report_of words bytes
