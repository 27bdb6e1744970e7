-- Which faults of its links a report's search can be done after. This project's own.
use Rattle.std.specs.Prelude.{◌≢◌, ℕ, ◌<◌, length}
use Rattle.schedule.specs.Judging.{group_at}
use Rattle.collective_spec.specs.declared.kind.Kind.TheVariants.{Allreduce}
use Rattle.report_form.specs.Reports.{ReportValue}

-- its collective is searched in one part, and it has the group, which is wider than what is left of it
pub record CanFail (r : ReportValue) (group width : ℕ) : Type 0 where
  pub single : r.words.collective.kind ≢ Allreduce
  pub has : group < length r.topology.topology.groups
  pub wider : width < (group_at r.topology.topology group).width
