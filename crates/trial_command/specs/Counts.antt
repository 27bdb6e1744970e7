-- The topology of a trial, and what is counted in its report, as contracts of the code have them.
use Rattle.std.specs.Prelude.{ℕ, ◌*◌, length, sum_by}
use Rattle.topology_text.specs.Value.{NamedTopologyValue}
use Rattle.topology_families.specs.Family.{family_of}
use Rattle.report_form.specs.{Reports.ReportValue, Numbered.points_of}
use Rattle.node_programs.specs.Runs.{operations}
use Rattle.replay_text.specs.Showing.{shown_in, machine_of}
use Rattle.run_rules.specs.Trials.{trial_family, trial_size}

abbrev pub trial_topology : ℕ → NamedTopologyValue
trial_topology n = family_of (trial_family n) (trial_size n)

-- how many points, refuted and unknown candidates there are in all parts
abbrev pub points_in : ReportValue → ℕ
points_in r = sum_by (λ x. length x.1.points) r.frontiers

abbrev pub refuted_in : ReportValue → ℕ
refuted_in r = sum_by (λ x. length x.1.refuted) r.frontiers

abbrev pub unknown_in : ReportValue → ℕ
unknown_in r = sum_by (λ x. length x.1.unknown) r.frontiers

-- each point is replayed in four orders, and each replay does all operations of its programs
abbrev pub replays_in : ReportValue → ℕ
replays_in r = 4 * length (points_of r)

abbrev pub events_in : ReportValue → ℕ
events_in r = 4 * sum_by (λ p. operations (machine_of (shown_in r p))) (points_of r)
