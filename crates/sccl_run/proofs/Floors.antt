-- What the other searches print is right, and no schedule is below the floor.
use Rattle.std.proofs.Common.{◌≡◌, ◌≢◌, ◌<◌, ◌≤◌, ◌*◌, ◌++◌, inl, inr, ℕ, Bool, true, false, not, nat_lt, Option, None, Some, Ok, refl, sym, subst, ap, ◌∙◌, arith, if◌then◌else◌, slice_get}
use Rattle.text_lines.specs.Check.{◌>>=◌, need, refuse}
use Rattle.outer_ports.specs.declared.part.Part.TheVariants.{Whole}
use Rattle.schedule.specs.{Links.{GroupValue, reversed_of}, Sends.ScheduleValue}
use Rattle.collective_spec.specs.declared.kind.Kind.TheVariants as kind
use Rattle.collective_spec.{specs.{Collectives.{IsSpec, adds_up, kind_in}, Kinds.allows}, proofs.Sized.fitting_spec}
use Rattle.candidate_order.specs.{declared.candidate.Candidate.Candidate, Copied.copied_spec, Frontiers.{QuestionValue, Achieves}}
use Rattle.candidate_formula.specs.Searched.{searched_question}
use Rattle.topology_text.specs.Value.{NamedTopologyValue}
use Rattle.command_words.specs.declared.command.Command.TheVariants as command
use Rattle.command_words.specs.Words.{command_of}
use Rattle.report_form.specs.{Answer.report_number, Reports.{ReportValue, WordsValue, kind_of, question_of}, Reading.report_of}
use Rattle.report_laws.proofs.ReportAgain.{report_again}
use Rattle.node_cuts.{specs.{declared.{floor.Floor.Floor, sets.Sets.Sets}, Floors.floor_of}, proofs.Flooring.floor_bounds}
use Rattle.cut_bounds.proofs.{Bounded.sums_bound, Turned.floor_same}
use Rattle.run_rules.specs.{declared.status.Status.TheVariants.{Done, BadReport}, Degraded.{IsNewSearch, left_topology}, Refusals.{Refusal, refused_as}}
use Rattle.run_rules.{specs.{Tasks.{Task, Bound, Order, Degrade, due, fault_in, given_sets, read_report, searchable, task_of}, Steps.whole_question}, proofs.Denied.{accepted_of, done_of, right_of}}
use Rattle.sccl_run.specs.{Headline.{AsksBound, AsksDegraded, AsksOrdered, PrintsBound, PrintsDegraded, PrintsOrdered}, Laws.IsRightRun, TopCall.{CountValue, RunValue}}
use Rattle.sccl_run.proofs.{Ended.ended, Printed.{IsJustOr, behind, due_of_done, due_or, found_one, passed, searchable_or, searches_or, unless}, RightRuns.done_answered, SearchWords.{bound_asked, degrade_asked, ordered_asked, root_word}}

-- ---- the floor

-- the floor of what is searched, by what the collective does
abbrev floor_by : Bool → Sets → QuestionValue → Floor
floor_by adds sets q = floor_of sets (if adds then reversed_of q.topology else q.topology) (copied_spec q.spec)

bounded : (adds : Bool) (sets : Sets) (q : QuestionValue) → adds_up q.spec ≡ adds → 0 < q.topology.nodes → IsSpec q.topology.nodes q.spec → kind_in q.spec ≢ kind.Allreduce
    → (x : Candidate) (s : ScheduleValue) → allows (kind_in q.spec) q.topology.nodes x.c ≡ true → Achieves adds q x s → (floor_by adds sets q).above * x.c ≤ x.r * (floor_by adds sets q).below
bounded true sets q adds some spec single x s allowed sums =
    subst (λ (f : Floor). f.above * x.c ≤ x.r * f.below) (sym (floor_same sets (reversed_of q.topology) q.spec)) (sums_bound sets q.topology q.spec s x.s x.r x.c adds single spec allowed sums)
bounded false sets q adds some spec single x s allowed solves =
    subst (λ (f : Floor). f.above * x.c ≤ x.r * f.below) (sym (floor_same sets q.topology q.spec)) (floor_bounds sets q.topology q.spec s x.s x.r x.c some allowed solves)

-- ---- a search with cuts, and one in order

module _ (x : RunValue) (a b c : CountValue) (run : IsRightRun x a b c) (done : x.status ≡ Done) where
  pub bound_is_true : (all_sets : Bool) (w : WordsValue) (t : NamedTopologyValue) → AsksBound all_sets x.words x.bytes w t → PrintsBound all_sets w t x.before x.now
  bound_is_true all_sets w t alone =
      let asks = alone.asks in
      let sets : Sets = given_sets all_sets in
      let q : QuestionValue = question_of w t Whole in
      let is : command_of x.words ≡ Ok (command.Bound w.collective.kind 1 w.limits (root_word t.names w) all_sets) = ap command_of asks.words_are ∙ bound_asked t.names w all_sets asks.topology.names asks.limits alone.single alone.unpruned in
      let task : Task = Bound w t sets in
      let asked : due x.words x.bytes ≡ Ok task = due_of_done x a b c run done task (due_or x.words x.bytes _ task is (behind _ (w, t) _ task (searches_or _ _ _ x.words x.bytes w t asks) (inl refl))) in
      let end = done_answered (Ok task) x (ended x a b c (Ok task) run asked) done in
      let root = asks.limits.root in
      let many = asks.topology.as_many in
      let spec : IsSpec t.topology.nodes q.spec = fitting_spec t.topology.nodes (record { kind = kind_of w.collective.kind Whole; root = w.collective.root }) t.custom asks.fits (omega (arith, root, many)) asks.topology.custom in
      record { frontier = end.answer.frontier; floor = floor_of sets (searched_question q).topology (searched_question q).spec; text = end.written refl ∙ ap (λ text. x.before ++ text) end.answer.says.text; told = (2, omega arith, refl); searched = found_one q end.answer.frontier end.answer.found.right end.answer.found.searched end.answer.found.within; holds = bounded (adds_up q.spec) sets q refl asks.topology.topology.some spec end.answer.found.right.single }

  pub ordered_is_true : (w : WordsValue) (t : NamedTopologyValue) → AsksOrdered x.words x.bytes w t → PrintsOrdered w t x.before x.now
  ordered_is_true w t alone =
      let asks = alone.asks in
      let is : command_of x.words ≡ Ok (command.Ordered w.collective.kind 1 w.limits (root_word t.names w)) = ap command_of asks.words_are ∙ ordered_asked t.names w asks.topology.names asks.limits alone.single alone.unpruned in
      let task : Task = Order w t in
      let asked : due x.words x.bytes ≡ Ok task = due_of_done x a b c run done task (due_or x.words x.bytes _ task is (behind _ (w, t) _ task (searches_or _ _ _ x.words x.bytes w t asks) (inl refl))) in
      let end = done_answered (Ok task) x (ended x a b c (Ok task) run asked) done in
      let found = end.answer.found in
      record { frontier = end.answer.frontier; text = end.written refl ∙ ap (λ text. x.before ++ text) end.answer.says.text; searched = found_one (question_of w t Whole) end.answer.frontier found.right found.searched found.within }

-- ---- a search after a fault

-- the group is there, and is narrowed
faulted : (groups : Option GroupValue) (width : ℕ) (missing wider : Refusal) → IsJustOr (need groups missing >>= (λ old. refuse (not (nat_lt width old.width)) wider)) tt
faulted None width missing wider = inr (missing, refl)
faulted (Some old) width missing wider = passed (not (nat_lt width old.width)) wider

pub degraded_is_true : (x : RunValue) (a b c : CountValue) → IsRightRun x a b c → x.status ≡ Done → (r : ReportValue) (group width : ℕ) → AsksDegraded x.words x.bytes r group width → PrintsDegraded r group width x.before x.now
degraded_is_true x a b c run done r group width asks =
    let is : command_of x.words ≡ Ok (command.Degrade group 1 width 2) = ap command_of asks.words_are ∙ degrade_asked group width asks.group_fits asks.width_fits in
    let task : Task = Degrade r group width in
    let q : QuestionValue = whole_question r.words r.topology in
    let read : read_report x.bytes ≡ Ok r = ap (refused_as BadReport report_number) (ap report_of asks.bytes_are ∙ report_again r asks.valid) in
    let fault : IsJustOr (fault_in r group 1 width 2) tt = unless _ _ _ tt (faulted (slice_get r.topology.topology.groups group) width _ _) in
    let due_task : IsJustOr (task_of (command.Degrade group 1 width 2) x.bytes) task = behind (read_report x.bytes) r _ task (inl read) (behind (fault_in r group 1 width 2) tt _ task fault (behind (searchable q) tt _ task (searchable_or q) (inl refl))) in
    let asked : due x.words x.bytes ≡ Ok task = due_of_done x a b c run done task (due_or x.words x.bytes _ task is due_task) in
    let end = done_answered (Ok task) x (ended x a b c (Ok task) run asked) done in
    let accepted = accepted_of r (IsNewSearch r group width) _ x.status end.text end.answer done in
    let new = done_of r (IsNewSearch r group width) _ x.status end.text end.answer accepted in
    record { old = right_of r (IsNewSearch r group width) _ x.status end.text end.answer accepted; frontier = new.frontier; text = end.written refl ∙ ap (λ text. x.before ++ text) new.says.text; searched = found_one (question_of r.words (left_topology r.topology group width) Whole) new.frontier new.found.right new.found.searched new.found.within }
