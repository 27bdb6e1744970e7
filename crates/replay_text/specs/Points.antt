-- What a report keeps of each of its points, and the text of a point's programs.
use Rattle.std.specs.Prelude.{◌≡◌, ℕ, ◌≤◌, true, false, List, ◌∷◌, ◌++◌, Option, if◌then◌else◌, [], IsTrue, length}
use Rattle.outer_ports.specs.declared.part.Part.{Part}
use Rattle.schedule.specs.{Bags.contributions, JoinedRuns.joined_after, Sends.{IsInRange, IsSchedule}}
use Rattle.bag_runs.specs.Stores.{StoreValue, stored}
use Rattle.collective_spec.specs.{declared.layout.Layout.TheVariants.All, Kinds.allows, Layouts.laid_out, Collectives.{IsSpec, kind_in, spec_demand}}
use Rattle.candidate_order.specs.Frontiers.{PointValue}
use Rattle.node_programs.specs.{Programs.programs_of, Printing.programs_text}
use Rattle.report_form.specs.Reports.{ReportValue}
use Rattle.replay_text.specs.{Replay.numbered_steps, Showing.{Shown, adding_of, chunks_at, holds_as_shown, is_joined, nodes_of, order_lines, shown_in, shown_steps, shown_verdict, steps_that_add}}

-- the schedule is valid, its sends are of the collective's chunks and nodes, the collective has the
-- chunk count of the point; where it joins no others all its steps add by its mark, and where it
-- does every chunk is demanded at every node
pub record IsShowable (x : Shown) : Type 0 where
  pub spec : IsSpec (nodes_of x) x.question.spec
  pub schedule : IsSchedule x.point.schedule
  pub in_range : IsInRange (chunks_at x) (nodes_of x) x.point.schedule
  pub allowed : is_joined x.part ≡ false → IsTrue (allows (kind_in x.question.spec) (nodes_of x) x.point.candidate.c)
  pub some : 1 ≤ x.point.candidate.c
  pub few : x.point.candidate.c ≤ 16
  pub all_add : is_joined x.part ≡ false → steps_that_add x.point.mark (length x.point.schedule.rounds) ≡ length x.point.schedule.rounds
  pub everywhere : is_joined x.part ≡ true → spec_demand x.question.spec (nodes_of x) x.point.candidate.c ≡ laid_out All (chunks_at x) (nodes_of x)

-- the store after the last step of a point that adds up
abbrev pub last_store_of : Shown → StoreValue
last_store_of x = stored (chunks_at x) (nodes_of x) (joined_after (contributions (nodes_of x)) x.point.schedule (adding_of x) (length x.point.schedule.rounds))

-- the lines of a replay behind the number of the point, but for the end
abbrev pub body_lines : Shown → Option ℕ → List (List (List ℕ))
body_lines x order = numbered_steps 0 (shown_steps x) ++ (shown_verdict x ∷ (if holds_as_shown x then order_lines x order else []))

-- the programs that carry the schedule of a point out, in text
abbrev pub programs_of_point : ReportValue → ℕ → Part × PointValue → List ℕ
programs_of_point r number p = let s = shown_in r p in programs_text number r.topology.names (programs_of (nodes_of s) p.1.schedule (adding_of s))
