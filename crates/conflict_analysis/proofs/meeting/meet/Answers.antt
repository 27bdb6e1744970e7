use Rattle.std.proofs.{Common.{◌≡◌, refl, inl, arith, Contains}, lemmas.List.get_or_default}
use Rattle.trail_core.specs.{Assigned.level_at, Meaning.trues}
use Rattle.conflict_analysis.{specs.Met.{value_of, IsSeen}, proofs.{Members.only, Marked.{IsUnmet, met_bottom, met_open, met_kept, unmet_by, unmet_at, at_false, level_read, level_within}, meeting.meet.Goals.{After-negated-this, After-level-level}}}
use Rattle.conflict_analysis.proofs.meeting.meet.Goals as goal

pub returns-then-index-walk : goal.returns-then-index-walk
returns-then-index-walk c =
    let read = get_or_default c.args.walk.now.marks.items c.var-var.result c.index.result.now 0 (omega (arith, c.var-var.ensures.var, c.requires.within, c.requires.sorted.marked.len)) in
    let seen : IsSeen (value_of c.args.walk.now) c.args.lit = rw (← c.var-var.ensures.var) (omega (arith, read, c.index.ensures, c.if-index-walk.true)) in
    record { sorted = c.requires.sorted; stamp = refl; hints = refl; seen = λ o h. rw (← only c.args.lit o h) seen; stays = λ v g. refl; new = λ v g. inl g; more = omega arith }

-- the literal's negation stands on the trail
stands : (c : After-negated-this) → Contains (trues c.args.core.now) c.negated-this.result
stands c =
    let was = unmet_by c.args.core.now (value_of c.args.walk.now) c.args.lit c.var-var.result c.index.result.now c.requires.formed c.requires.sorted c.requires.within c.requires.met c.var-var.ensures.var c.index.ensures (omega (arith, c.if-index-walk.false)) in
    rw c.negated-this.ensures (at_false c.args.core.now c.args.lit was.0 was.1.at)

pub place-place-requires : goal.place-place-requires
place-place-requires c = stands (goal.at.place-place-requires c).After-negated-this

pub level-level-requires : goal.level-level-requires
level-level-requires c = stands (goal.at.level-level-requires c).After-negated-this

-- the literal was not met, and became false at this place
unmet : (c : After-level-level) → IsUnmet c.args.core.now (value_of c.args.walk.now) c.args.lit c.place-place.result
unmet c =
    let was = unmet_by c.args.core.now (value_of c.args.walk.now) c.args.lit c.var-var.result c.index.result.now c.requires.formed c.requires.sorted c.requires.within c.requires.met c.var-var.ensures.var c.index.ensures (omega (arith, c.if-index-walk.false)) in
    unmet_at c.args.core.now (value_of c.args.walk.now) c.args.lit c.negated-this.result was.0 c.place-place.result was.1 c.negated-this.ensures c.place-place.ensures.within c.place-place.ensures.is

-- on this level
level : (c : After-level-level) → c.level-level.result ≡ level_at c.args.core.now.limits c.place-place.result
level c = level_read c.args.core.now c.args.lit c.negated-this.result c.place-place.result c.level-level.result (unmet c).at c.negated-this.ensures c.level-level.ensures

pub returns-then-level-eq0 : goal.returns-then-level-eq0
returns-then-level-eq0 c =
    let b = (goal.at.returns-then-level-eq0 c).After-level-level in
    let zero = level b in
    rw c.var-var.ensures.var (met_bottom c.args.core.now (value_of c.args.walk.now) c.args.lit c.place-place.result c.insert.new.self (unmet b) c.in_ok-insert.ensures.place (omega (arith, zero, c.if-level-eq0.true)))

pub returns-then-level-depth : goal.returns-then-level-depth
returns-then-level-depth c =
    let b = (goal.at.returns-then-level-depth c).After-level-level in
    let top = level b in
    rw c.var-var.ensures.var (met_open c.args.core.now (value_of c.args.walk.now) c.args.lit c.place-place.result c.insert.new.self (unmet b) c.in_ok-insert.ensures.place (omega (arith, top, c.if-level-depth.true, c.depth.ensures)) (omega (arith, top, c.if-level-depth.true, c.depth.ensures, c.if-level-eq0.false)))

pub returns : goal.returns
returns c =
    let b = (goal.at.returns c).After-level-level in
    let low = level b in
    rw (c.in_ok-push-2.ensures.items, c.var-var.ensures.var) (met_kept c.args.core.now (value_of c.args.walk.now) c.args.lit c.place-place.result c.insert.new.self (unmet b) c.in_ok-insert.ensures.place (omega (arith, low, c.if-level-depth.false, c.depth.ensures, level_within c.args.core.now c.place-place.result)))
