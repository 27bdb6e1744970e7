-- What is owed for a trial.
use Rattle.std.specs.Prelude.{◌≡◌, ℕ, List}
use Rattle.outer_ports.specs.Files.{Files}
use Rattle.topology_families.specs.Family.{family_of}
use Rattle.report_form.specs.Reports.{ReportValue}
use Rattle.frontier_audit.specs.{declared.verdict.AuditVerdict.TheVariants.Verified, Rights.{IsRight, IsSearched}}
use Rattle.run_rules.specs.{Trials.{trial_family, trial_size, trial_words, trial_text}, Claims.IsVerdict}

-- a search of its own, which is verified beside files of its own, is summed up
pub record Tries (n : ℕ) (text : List ℕ) : Type 0 where
  pub report : ReportValue
  pub own_files : Files
  pub words : report.words ≡ trial_words n
  pub topology : report.topology ≡ family_of (trial_family n) (trial_size n)
  pub right : IsRight report
  pub searched : IsSearched report
  pub verified : IsVerdict report own_files Verified
  pub written : text ≡ trial_text n report
