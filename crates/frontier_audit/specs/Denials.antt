-- What an audit denies, and checks of lists in their order. This project's own.
use Rattle.std.specs.Prelude.{ℕ, List, [], ◌∷◌, Result, Ok, Err}
use Rattle.text_lines.specs.Check.{◌>>=◌}
use Rattle.outer_ports.specs.declared.part.Part.{Part}
use Rattle.candidate_order.specs.declared.candidate.Candidate.{Candidate}
use Rattle.frontier_audit.specs.declared.verdict.{Reason.Reason, AuditVerdict.{AuditVerdict, TheVariants.{Verified, Denied}}}
use Rattle.frontier_audit.specs.declared.verdict.Reason.TheVariants.{ScheduleWrong, MarkWrong, CandidateMissing, ProofMissing, ProofRefused, CnfDiffers, PartialRefused, JoinWrong}

-- the numbers of the reasons, by which refusals name them
abbrev pub reason_number : Reason → ℕ
reason_number ScheduleWrong = 1
reason_number MarkWrong = 2
reason_number CandidateMissing = 3
reason_number ProofMissing = 4
reason_number ProofRefused = 5
reason_number CnfDiffers = 6
reason_number PartialRefused = 7
reason_number JoinWrong = 8

-- why, and at which candidate
abbrev pub Denial : Type 0
Denial = Reason × Candidate

abbrev pub Checked : Type 0 → Type 0
Checked E = Result (Unit {0}) E

-- the first of them, in their order, that fails the check
abbrev pub each : {X E : Type 0} → (X → Checked E) → List X → Checked E
each check [] = Ok tt
each check (x ∷ xs) = do
  _ ← check x
  each check xs

-- the part in which the check fails
abbrev pub in_part : Part → Checked Denial → Checked (Part × Denial)
in_part part (Ok x) = Ok x
in_part part (Err denial) = Err (part, denial)

abbrev pub verdict_from : Checked (Part × Denial) → AuditVerdict
verdict_from (Ok x) = Verified
verdict_from (Err (part, (reason, candidate))) = Denied reason part candidate
