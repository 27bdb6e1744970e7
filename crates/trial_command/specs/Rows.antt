-- Small trials.
use Rattle.std.specs.Prelude.{ℕ, List, [], ◌∷◌}
use Rattle.outer_ports.specs.declared.part.Part.TheVariants.{Whole}
use Rattle.candidate_order.specs.declared.candidate.Candidate.{Candidate}
use Rattle.report_form.specs.Reports.{ReportValue}
use Rattle.run_rules.specs.Trials.{trial_words}
use Rattle.trial_command.specs.Counts.{trial_topology}

-- the report of the trial that the number stands for, with these refuted candidates and no point
abbrev pub refuted_trial : ℕ → List Candidate → ReportValue
refuted_trial n refuted = record {
  words = trial_words n;
  topology = trial_topology n;
  frontiers = (Whole, record { points = []; refuted = refuted; unknown = [] }) ∷ [];
  joined = [];
}
