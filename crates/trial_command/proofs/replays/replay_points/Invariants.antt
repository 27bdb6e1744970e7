use Rattle.std.proofs.Common.{◌≡◌, ◌+◌, ◌-◌, ◌*◌, ◌≤◌, length, take, sum_by}
use Rattle.node_programs.specs.Runs.{operations}
use Rattle.report_form.specs.Numbered.{points_of}
use Rattle.replay_text.specs.Showing.{machine_of, shown_in}
use Rattle.trial_command.proofs.replays.replay_points.Given as goal

-- the points before this number were replayed
abbrev pub invariant-loop-part : goal.invariant-loop-part
invariant-loop-part l = record {
  some : 1 ≤ l.number;
  within : l.number - 1 ≤ length (points_of l.report);
  count : l.count ≡ 4 * (l.number - 1);
  events : l.events ≡ 4 * sum_by (λ p. operations (machine_of (shown_in l.report p))) (take (l.number - 1) (points_of l.report));
}

abbrev pub decreases-loop-part : goal.decreases-loop-part
decreases-loop-part l = length (points_of l.report) + 1 - l.number
