use Rattle.std.proofs.Common.{◌≡◌, length, ap, arith}
use Rattle.trail_core.proofs.Keeping.{lits_length}
use Rattle.cnf_formula.specs.Literals.{LitValue}
use Rattle.conflict_analysis.{specs.{Met.{value_of, lit_at}, inner.Walks.IsStep}, proofs.{Marked.lit_stands, Resolved.{place_read, reason_implied}, Waiting.kept_step, shrinking.is_spare.Goals.In-Some}}
use Rattle.conflict_analysis.proofs.shrinking.is_spare.Goals as goal

pub bounds-trail-place : goal.bounds-trail-place
bounds-trail-place c = omega (arith, c.requires.place, ap length c.trail.ensures.value, lits_length c.args.core.now.trail)

pub reason-requires : goal.reason-requires
reason-requires c = rw (place_read c.args.core.now c.trail.result.now c.args.place c.index-trail-place.result c.trail.ensures.value c.requires.place c.index-trail-place.is) (lit_stands c.args.core.now c.args.place c.requires.place)

-- a literal that is kept and has a reason
step : (c : In-Some) → IsStep c.args.core.now (value_of c.args.walk.now) c.args.place
step c =
    let core = c.args.core.now in
    let x : LitValue = c.index-trail-place.result in
    let at : x ≡ lit_at core c.args.place = place_read core c.trail.result.now c.args.place x c.trail.ensures.value c.requires.place c.index-trail-place.is in
    kept_step core (value_of c.args.walk.now) c.args.place c.trail.ensures.formed c.requires.sorted c.requires.place (c.is_waiting.ensures.0 c.if-not-is_waiting.false) (reason_implied core c.args.place x c.in-Some._reason c.trail.ensures.grounded c.trail.ensures.formed c.requires.place at c.in-Some.ensures)

pub returns-then-shrinks : goal.returns-then-shrinks
returns-then-shrinks c = λ h. step (goal.at.returns-then-shrinks c).In-Some

pub returns-else-shrinks : goal.returns-else-shrinks
returns-else-shrinks c = λ h. step (goal.at.returns-else-shrinks c).In-Some
