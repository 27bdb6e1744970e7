-- One try at a candidate: what it may do to the files, and what its search says.
use Rattle.std.specs.Prelude.{◌≡◌, ℕ, ◌+◌, ◌≤◌, Bool, List, [], length, map, Some}
use Rattle.cnf_formula.specs.{Formulas.{FormulaValue, Satisfies}, Lines.ProofLineValue, declared.line.LratLine.TheVariants.Addition}
use Rattle.proof_rules.specs.Refuting.{Refutes}
use Rattle.lrat_text.specs.Printing.{cnf_text}
use Rattle.outer_ports.specs.{declared.{part.Part.Part, proof_name.{FileKind.TheVariants.{Cnf, Lrat, Partial}, ProofName.ProofName}}, Files.Files}
use Rattle.ledger_rules.specs.Logs.{learned}
use Rattle.conflict_ledger.specs.Shelved.{log_text}
use Rattle.sat_core.specs.{declared.solving.SatAnswer.SatAnswer, Ready.{AreNumbered, AreShort}}
use Rattle.sat_core.specs.declared.solving.SatAnswer.TheVariants as answer
use Rattle.candidate_order.specs.{declared.{candidate.Candidate.Candidate, outcome.Outcome.Outcome}, Frontiers.QuestionValue}
use Rattle.candidate_order.specs.declared.outcome.Outcome.TheVariants as outcome
use Rattle.schedule.specs.{Links.TopologyValue, Placed.PlacementValue, Sends.ScheduleValue}
use Rattle.round_encoding.specs.{declared.encoding.Encoding.Encoding, Candidates.{IsEncodingOf, IsTightSolution}, Decoding.decoded}
use Rattle.candidate_formula.specs.{Formulas.Suits, Files.{file_of, candidate_of}, Begun.BegunOnly}
use Rattle.engine_rules.specs.{Outcomes.{SolvesTightly, SpentOn}, declared.settled.Settled.Settled}
use Rattle.engine_rules.specs.declared.settled.Settled.TheVariants as settled

-- ---- files

-- the file is one of the candidate's for this part
pub record IsOwn (part : Part) (x : Candidate) (name : ProofName) : Type 0 where
  pub of_part : name.part ≡ part
  pub of_candidate : candidate_of name ≡ x

-- each file is as before, or is one of the candidate's and was begun, for this formula
abbrev pub BeginsOwn : FormulaValue → Part → Candidate → Files → Files → Type 0
BeginsOwn f part x = BegunOnly (IsOwn part x) (λ _. f)

-- the text of the formula stands there
abbrev pub HasText : FormulaValue → Part → Candidate → Files → Type 0
HasText f part x files = files (file_of Cnf part x) ≡ Some (cnf_text f)

-- the texts of the lines stand there, of all of them and of those that were learned
pub record HasLines (part : Part) (x : Candidate) (lines : List ProofLineValue) (files : Files) : Type 0 where
  pub whole : files (file_of Lrat part x) ≡ Some (log_text lines)
  pub log : files (file_of Partial part x) ≡ Some (log_text (learned lines))

-- of the two files of lines each is empty that does not prove such an outcome, and the other is as before
abbrev pub IsTidy : Settled → Part → Candidate → Files → Files → Type 0
IsTidy settled.Solved part x before now = (now (file_of Lrat part x) ≡ Some []) × (now (file_of Partial part x) ≡ Some [])
IsTidy settled.Refuted part x before now = (now (file_of Lrat part x) ≡ before (file_of Lrat part x)) × (now (file_of Partial part x) ≡ Some [])
IsTidy settled.Unknown part x before now = (now (file_of Lrat part x) ≡ Some []) × (now (file_of Partial part x) ≡ before (file_of Partial part x))

-- ---- searches

-- the lines refute the formula, and at most one of them was not learned
pub record Closes (f : FormulaValue) (limit : ℕ) (lines : List ProofLineValue) : Type 0 where
  pub refutes : Refutes (map Addition lines) f
  pub few : length lines ≤ limit + 1

-- what a search of a formula says, by lines of which so many may be learned
pub record IsSearch (f : FormulaValue) (limit : ℕ) (lines : List ProofLineValue) (said : SatAnswer) : Type 0 where
  pub model : (values : List Bool) → said ≡ answer.Model values → Satisfies values f
  pub refuted : said ≡ answer.Refuted → Closes f limit lines
  pub spent : said ≡ answer.Spent → SpentOn f lines limit
  pub numbered : AreNumbered (length f.clauses) lines
  pub short : AreShort f.vars lines

-- ---- outcomes

-- what an outcome says of the answer of a search by this encoding, where so many lines could be learned
pub record Says (e : Encoding) (said : SatAnswer) (limit : ℕ) (out : Outcome) : Type 0 where
  pub solved : (schedule : ScheduleValue) → out ≡ outcome.Solved schedule → (t : TopologyValue) (pre post : PlacementValue) (steps rounds : ℕ) → IsEncodingOf t pre post steps rounds e → IsTightSolution t pre post schedule steps rounds
  pub by_model : (schedule : ScheduleValue) → out ≡ outcome.Solved schedule → (values : List Bool) × (said ≡ answer.Model values) × (schedule ≡ decoded (record { map = e.map; extra = e.extra }) values)
  pub refuted : out ≡ outcome.Refuted → said ≡ answer.Refuted
  pub unknown : (n : ℕ) → out ≡ outcome.Unknown n → (said ≡ answer.Spent) × (n ≡ limit)

-- what an outcome says of the candidate, by the lines of the search of its formula
pub record IsOutcome (q : QuestionValue) (x : Candidate) (f : FormulaValue) (lines : List ProofLineValue) (said : Outcome) : Type 0 where
  pub solved : (schedule : ScheduleValue) → said ≡ outcome.Solved schedule → SolvesTightly q x schedule
  pub suits : (schedule : ScheduleValue) → said ≡ outcome.Solved schedule → Suits q x schedule
  pub refuted : said ≡ outcome.Refuted → Refutes (map Addition lines) f
  pub unknown : (n : ℕ) → said ≡ outcome.Unknown n → (n ≡ q.limits.conflicts) × SpentOn f lines n
