-- The files of an engine that keeps proofs on a shelf: what stands beside its record, and what its calls may change. This project's own.
use Rattle.std.specs.Prelude.{◌≡◌, ◌⊎◌, Bool, IsTrue, ◌++◌, All, Contains, Option, Some}
use Rattle.outer_ports.specs.{declared.{part.Part.Part, proof_name.ProofName.ProofName}, Port.Tells, Files.Files}
use Rattle.candidate_order.specs.{declared.candidate.Candidate.Candidate, Frontiers.QuestionValue}
use Rattle.candidate_formula.specs.{Formulas.formula_for, Files.{candidate_of, SolvedFiles, RefutedFiles, UnknownFiles}, Begun.BegunOnly}
use Rattle.engine_rules.specs.{declared.settled.Settled.Settled, Outcomes.{RecordValue, IsNew}}
use Rattle.engine_rules.specs.declared.settled.Settled.TheVariants as settled

-- an engine's part, question, record, and the candidate at which it failed; and of the shelf that is lent to it, whether it tells its files, and these
pub record EngineState : Type 0 where
  pub part : Part
  pub question : QuestionValue
  pub entries : RecordValue
  pub stopped : Option Candidate
  pub told : Bool
  pub files : Files

-- the files of a candidate that was settled so
abbrev pub HasFiles : Part → QuestionValue → Files → Candidate × Settled → Type 0
HasFiles part q files (x, settled.Solved) = SolvedFiles part q files x
HasFiles part q files (x, settled.Refuted) = RefutedFiles part q files x
HasFiles part q files (x, settled.Unknown) = UnknownFiles part q files (record { candidate = x; conflicts = q.limits.conflicts })

-- where the shelf tells its files, each candidate of the record has them
abbrev pub KeptAgrees : EngineState → Type 0
KeptAgrees now = IsTrue now.told → All (HasFiles now.part now.question now.files) now.entries

-- the file belongs to a candidate that was settled meanwhile, or to the one at which the engine failed
pub record IsTouched (before after : EngineState) (name : ProofName) : Type 0 where
  pub of_part : name.part ≡ before.part
  pub of_candidate : ((kind : Settled) × Contains after.entries (candidate_of name, kind) × IsNew before.entries (candidate_of name)) ⊎ (after.stopped ≡ Some (candidate_of name))

-- the part and the question stay, the record is only added to, and the engine fails once; where the shelf tells its files, each is as before, or belongs to a candidate that was settled or failed meanwhile and was begun
pub record KeptMoves (before after : EngineState) : Type 0 where
  pub same_part : after.part ≡ before.part
  pub same_question : after.question ≡ before.question
  pub more : RecordValue
  pub added : after.entries ≡ before.entries ++ more
  pub stays : (x : Candidate) → before.stopped ≡ Some x → after.stopped ≡ Some x
  pub tells : Tells before.told after.told
  pub begun : IsTrue after.told → BegunOnly (IsTouched before after) (λ name. formula_for before.question (candidate_of name)) before.files after.files
