-- What refutes candidates refutes them still where its files stay.
use Rattle.std.proofs.Common.{arith, refl}
use Rattle.outer_ports.specs.{declared.part.Part.Part, Files.Files}
use Rattle.candidate_order.specs.{declared.candidate.Candidate.Candidate, Frontiers.QuestionValue}
use Rattle.candidate_formula.specs.Files.{HasRefutation}
use Rattle.proof_audit.specs.Kept.{BothStay, KeepsEach}

pub still_refuted : (part : Part) (q : QuestionValue) (before after : Files) (x : Candidate) → BothStay part x before after → HasRefutation part q before x → HasRefutation part q after x
still_refuted part q before after x stay has = grind arith

pub keeps_refl : (part : Part) (q : QuestionValue) (files : Files) → KeepsEach part q files files
keeps_refl part q files x has = record { formula = refl; proof = refl }

pub keeps_trans : (part : Part) (q : QuestionValue) (before between after : Files) → KeepsEach part q before between → KeepsEach part q between after → KeepsEach part q before after
keeps_trans part q before between after first second x has = grind (arith, still_refuted)
