use Rattle.std.proofs.{lemmas.{Int.to_z-of_z, Result.on_ok_weaker}, Common.{of_z, to_z, rules, w64, ◌≡◌, ◌+◌, ◌<◌, [], length, get_or, set, sym, ap, arith, ◌∙◌, subst, ◌⊎◌, Contains, pos}}
use Rattle.trail_core.{specs.{Assigned.IsFalse, Meaning.trues}, proofs.Keeping.lits_length}
use Rattle.conflict_analysis.specs.{Met.{value_of, WalkValue, lit_at, IsSorted, IsSeen, HasMet}, inner.Walks.without}
use Rattle.conflict_analysis.proofs.{Marked.lit_stands, Resolved.{step_read, place_read, reason_some, without_is, without_sorted, others_met, others_within}, meeting.resolve.Goals.After-var}
use Rattle.conflict_analysis.proofs.meeting.resolve.Goals as goal

pub bounds-trail-place : goal.bounds-trail-place
bounds-trail-place c = omega (arith, c.requires.step.within, ap length c.trail.ensures.value, lits_length c.args.core.now.trail)

pub reason-requires : goal.reason-requires
reason-requires c = rw (place_read c.args.core.now c.trail.result.now c.args.place c.index-trail-place.result c.trail.ensures.value c.requires.step.within c.index-trail-place.is) (lit_stands c.args.core.now c.args.place c.requires.step.within)

pub unwrap-reason-requires : goal.unwrap-reason-requires
unwrap-reason-requires c =
    let core = c.args.core.now in
    let step = c.requires.step in
    let at : c.index-trail-place.result ≡ lit_at core c.args.place = place_read core c.trail.result.now c.args.place c.index-trail-place.result c.trail.ensures.value step.within c.index-trail-place.is in
    reason_some c.reason.result step.implied.id (sym (step_read core c.args.place c.index-trail-place.result c.reason.result step.formed step.within at c.reason.ensures) ∙ step.implied.reason)

-- the step is marked, and its reason noted
marked : (c : After-var) → (c.requires.step.implied.id ≡ c.unwrap-reason.result) × ◌≡◌ {A = WalkValue} (without c.args.core.now (value_of c.args.walk.now) c.args.place c.requires.step.implied.id) (record (value_of c.args.walk.now) { marks = set c.args.walk.now.marks.items c.var.result (c.args.walk.now.stamp + 2); hints = c.push.new.self.items })
marked c =
    let at : c.index-trail-place.result ≡ lit_at c.args.core.now c.args.place = place_read c.args.core.now c.trail.result.now c.args.place c.index-trail-place.result c.trail.ensures.value c.requires.step.within c.index-trail-place.is in
    let hint : to_z w64 (of_z w64 c.hint.result) ≡ pos (c.unwrap-reason.result + 1) = to_z-of_z w64 c.hint.result (search rules) ∙ c.hint.ensures in
    without_is c.args.core.now (value_of c.args.walk.now) c.args.place c.requires.step c.index-trail-place.result c.reason.result c.unwrap-reason.result c.var.result (to_z w64 (of_z w64 c.hint.result)) c.push.new.self.items at c.reason.ensures c.unwrap-reason.ensures c.var.ensures.var hint c.in_ok-push.ensures.items

pub meet_all-requires : goal.meet_all-requires
meet_all-requires c =
    let core = c.args.core.now in
    let w : WalkValue = value_of c.args.walk.now in
    let step = c.requires.step in
    let is = marked (goal.at.meet_all-requires c).After-var in
    record {
      formed = step.formed;
      sorted = subst (IsSorted core) is.1 (without_sorted core w c.args.place step);
      few = c.requires.few;
      id = subst (λ i. i < length core.clauses) is.0 step.implied.within;
      met = λ o h. subst (λ y. IsSeen y o ⊎ IsFalse (trues core) o) is.1 (others_met core w c.args.place step o (subst (λ i. Contains (get_or core.clauses i []) o) (sym is.0) h));
      within = λ o h. others_within core w c.args.place step o (subst (λ i. Contains (get_or core.clauses i []) o) (sym is.0) h);
    }

pub returns : goal.returns
returns c =
    let core = c.args.core.now in
    let id = c.requires.step.implied.id in
    let now = without core (value_of c.args.walk.now) c.args.place id in
    let after : WalkValue = value_of c.meet_all.new.walk in
    let is = marked (goal.at.returns c).After-var in
    let met : HasMet core (get_or core.clauses c.unwrap-reason.result []) _ after → HasMet core (get_or core.clauses id []) now after = λ m. subst (λ i. HasMet core (get_or core.clauses i []) now after) (sym is.0) (subst (λ y. HasMet core (get_or core.clauses c.unwrap-reason.result []) y after) (sym is.1) m) in
    on_ok_weaker c.meet_all.result (λ m. record { step = c.requires.step; met = met m }) c.meet_all.ensures
