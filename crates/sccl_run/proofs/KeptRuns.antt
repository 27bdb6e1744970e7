-- Runs that were to keep proofs.
use Rattle.std.{proofs.Common.{◌≡◌, ◌≢◌, ℕ, List, true, arith, inl, inr, Ok, refl}, specs.Fmt.digits}
use Rattle.outer_ports.specs.{declared.{part.Part.TheVariants.Whole, proof_name.FileKind.TheVariants.{Cnf, Lrat}}, Files.Files}
use Rattle.topology_text.specs.Reading.{pattern_at, topology_of, topology_at, named_at}
use Rattle.command_words.specs.Words.{command_of}
use Rattle.report_form.specs.Rows.{relay_report}
use Rattle.proof_audit.specs.Kept.{BothStay}
use Rattle.frontier_audit.specs.OwedFiles.{KeepsProofs}
use Rattle.run_rules.specs.{declared.status.Status.Status, Tasks.{Synthesise, due}}
use Rattle.sccl_run.{specs.{Laws.IsRightRun, Rows.{RefuteOneStep, all_tell, kept_search, own_file}, TopCall.{CountValue, IsEnd}}, proofs.Ended.ended}

is_search : (status : Status) (text : List ℕ) (before after : Files) → due (kept_search status text before after).words (kept_search status text before after).bytes ≡ Ok (Synthesise relay_report.words relay_report.topology true)
unfolding due command_of topology_of topology_at named_at pattern_at digits
is_search status text before after = refl

-- however it ended, it keeps what refuted a candidate
keeps : (status : Status) (text : List ℕ) (before after : Files) → IsEnd (Ok (Synthesise relay_report.words relay_report.topology true)) (kept_search status text before after) all_tell → KeepsProofs relay_report.words relay_report.topology before after
keeps status text before after (inl end) = end.answer.keeps refl refl
keeps status text before after (inr halt) = (halt.leaves refl).1 refl

one_step_stays : (status : Status) (text : List ℕ) (before after : Files) (a b c : CountValue) → RefuteOneStep before → IsRightRun (kept_search status text before after) a b c → BothStay Whole (record { s = 1; r = 1; c = 1 }) before after
one_step_stays status text before after a b c refutes run =
    keeps status text before after (ended (kept_search status text before after) a b c _ run (is_search status text before after)) Whole (0, omega arith, refl) (record { s = 1; r = 1; c = 1 }) refutes

pub formula_changed_is_wrong : (status : Status) (text : List ℕ) (before after : Files) (a b c : CountValue) → RefuteOneStep before → after (own_file Cnf) ≢ before (own_file Cnf) → IsRightRun (kept_search status text before after) a b c → ⊥
formula_changed_is_wrong status text before after a b c refutes other run = let stays = one_step_stays status text before after a b c refutes run in other stays.formula

pub proof_changed_is_wrong : (status : Status) (text : List ℕ) (before after : Files) (a b c : CountValue) → RefuteOneStep before → after (own_file Lrat) ≢ before (own_file Lrat) → IsRightRun (kept_search status text before after) a b c → ⊥
proof_changed_is_wrong status text before after a b c refutes other run = let stays = one_step_stays status text before after a b c refutes run in other stays.proof
