-- Points of small reports.
use Rattle.std.specs.Prelude.{[], ◌∷◌}
use Rattle.outer_ports.specs.declared.part.Part.TheVariants.{Whole, Joined}
use Rattle.candidate_order.specs.declared.mark.Mark.TheVariants as mark
use Rattle.schedule.specs.Rows.{plan, send, pair_allreduce}
use Rattle.report_form.specs.Rows.{broadcast_report, allreduce_report}
use Rattle.replay_text.specs.Showing.{Shown, shown_in}

-- the broadcast of one chunk on two nodes
abbrev pub broadcast_point : Shown
broadcast_point = shown_in broadcast_report (
  Whole,
  record {
    candidate = record { s = 1; r = 1; c = 1 };
    schedule = plan (1 ∷ []) (send 0 0 1 1 ∷ []);
    mark = mark.Optimal;
  },
)

-- the joined point of an allreduce on two nodes
abbrev pub joined_point : Shown
joined_point = shown_in allreduce_report (
  Joined,
  record {
    candidate = record { s = 2; r = 2; c = 1 };
    schedule = pair_allreduce;
    mark = mark.Joined 1;
  },
)
