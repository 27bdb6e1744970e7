-- Files that refute candidates, and that stay. This project's own.
use Rattle.std.specs.Prelude.{◌≡◌}
use Rattle.outer_ports.specs.{declared.{part.Part.Part, proof_name.FileKind.TheVariants.{Cnf, Lrat}}, Files.Files}
use Rattle.candidate_order.specs.{declared.candidate.Candidate.Candidate, Frontiers.QuestionValue}
use Rattle.candidate_formula.specs.Files.{file_of, HasRefutation}

-- the formula of a candidate and what refutes it stand there as before
pub record BothStay (part : Part) (x : Candidate) (before after : Files) : Type 0 where
  pub formula : after (file_of Cnf part x) ≡ before (file_of Cnf part x)
  pub proof : after (file_of Lrat part x) ≡ before (file_of Lrat part x)

-- each candidate of the part that its files refuted before has these two files still
abbrev pub KeepsEach : Part → QuestionValue → Files → Files → Type 0
KeepsEach part q before after = (x : Candidate) → HasRefutation part q before x → BothStay part x before after
