-- Refutations that stood on the shelf before a search, and stay there. This project's own.
use Rattle.std.specs.Prelude.{◌≡◌, Bool, IsTrue, Contains}
use Rattle.outer_ports.specs.{declared.part.Part.Part, Files.Files}
use Rattle.candidate_order.specs.{declared.candidate.Candidate.Candidate, Frontiers.QuestionValue}
use Rattle.candidate_formula.specs.Files.{HasRefutation}
use Rattle.proof_audit.specs.Kept.{KeepsEach}
use Rattle.engine_rules.specs.{declared.settled.Settled.Settled, Outcomes.{RecordValue, IsNew}}
use Rattle.engine_rules.specs.declared.settled.Settled.TheVariants as settled
use Rattle.candidate_solver.specs.Kept.{EngineState, KeptMoves}

-- each candidate that was settled meanwhile, and that files refuted before, is recorded as refuted
abbrev pub TakesUpEach : Part → QuestionValue → RecordValue → RecordValue → Files → Type 0
TakesUpEach part q old now before = (x : Candidate) (kind : Settled) → Contains now (x, kind) → IsNew old x → HasRefutation part q before x → Contains now (x, settled.Refuted)

-- the record and the files change as those of an engine that searches; where refutations are to be kept, and the shelf tells its files, each that stood there stays, whatever was answered, and is taken up where its candidate was settled
pub record KeepingMoves (kept later : Bool) (before after : EngineState) : Type 0 where
  pub moves : KeptMoves before after
  pub same : later ≡ kept
  pub takes : IsTrue kept → IsTrue after.told → TakesUpEach before.part before.question before.entries after.entries before.files
  pub keeps : IsTrue kept → IsTrue after.told → KeepsEach before.part before.question before.files after.files
