use Rattle.std.proofs.Common.{◌≡◌, length, sym, ap, ◌∙◌, arith}
use Rattle.trail_core.proofs.Keeping.{lits_length}
use Rattle.cnf_formula.specs.Literals.{LitValue}
use Rattle.conflict_analysis.{specs.Met.{value_of, WalkValue, lit_at, mark_of}, proofs.{Resolved.place_read, Waiting.point_alone}}
use Rattle.conflict_analysis.proofs.analyze.point_below.Goals as goal

pub waiting_below-requires-clause-some : goal.waiting_below-requires-clause-some
waiting_below-requires-clause-some c = omega (arith, c.requires.sorted.open_, c.requires.one)

pub bounds-trail-waiting_below : goal.bounds-trail-waiting_below
bounds-trail-waiting_below c = omega (arith, c.waiting_below.ensures.next.within, ap length c.trail.ensures.value, lits_length c.args.core.now.trail)

pub returns : goal.returns
returns c =
    let core = c.args.core.now in
    let w : WalkValue = value_of c.args.walk.now in
    let place = c.waiting_below.result in
    let next = c.waiting_below.ensures.next in
    let x : LitValue = c.index-trail-waiting_below.result in
    let at : x ≡ lit_at core place = place_read core c.trail.result.now place x c.trail.ensures.value next.within c.index-trail-waiting_below.is in
    record { place = place; within = next.within; is = sym at; waits = ap (mark_of w) at ∙ next.waits; only = λ k v e. point_alone core w place k c.trail.ensures.formed c.requires.sorted c.requires.one next.within v next.waits e }
