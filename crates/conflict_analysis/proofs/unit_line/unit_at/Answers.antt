use Rattle.std.proofs.Common.{◌≡◌, [], ◌∷◌, ◌++◌, length, sym, ap, ◌∙◌, subst, inr, arith, Contains, reverse}
use Rattle.cnf_formula.specs.Literals.{negation}
use Rattle.trail_core.{specs.{Meaning.trues, Assigned.IsFalse}, proofs.Keeping.{lits_length, negated_twice}}
use Rattle.conflict_analysis.specs.Met.{value_of, WalkValue, lit_at}
use Rattle.conflict_analysis.proofs.{Marked.{lit_stands, lit_about}, Pointed.{IsBegun, begun_sorted}, Resolved.place_read, Denied.{met_from, walked_by, unit_line_by}, unit_line.unit_at.Goals.After-begin}
use Rattle.conflict_analysis.proofs.unit_line.unit_at.Goals as goal

-- nothing is met yet
begun : (c : After-begin) → IsBegun c.args.core.now (value_of c.begin.new.self)
begun c = let e = c.begin.ensures in record { len = e.len ∙ c.requires.rested.len; low = e.low; lits = e.lits; hints = e.hints; open_ = e.open; zeros = e.zeros; none = e.none }

-- the literal that is read is the step's
read : (c : After-begin) → c.index-trail-place.result ≡ lit_at c.args.core.now c.args.place
read c = place_read c.args.core.now c.trail.result.now c.args.place c.index-trail-place.result c.trail.ensures.value c.requires.place c.index-trail-place.is

pub bounds-trail-place : goal.bounds-trail-place
bounds-trail-place c = omega (arith, c.requires.place, ap length c.trail.ensures.value, lits_length c.args.core.now.trail)

pub meet-requires-clause-sorted : goal.meet-requires-clause-sorted
meet-requires-clause-sorted c = begun_sorted c.args.core.now (value_of c.begin.new.self) (begun (goal.at.meet-requires-clause-sorted c).After-begin)

pub meet-requires-clause-met : goal.meet-requires-clause-met
meet-requires-clause-met c =
    let core = c.args.core.now in
    let at = read (goal.at.meet-requires-clause-met c).After-begin in
    let stands : IsFalse (trues core) (negation c.index-trail-place.result) = subst (λ y. Contains (trues core) y) (sym at ∙ sym (negated_twice c.index-trail-place.result)) (lit_stands core c.args.place c.requires.place) in
    inr (subst (λ y. IsFalse (trues core) y) (sym c.negated.ensures) stands)

pub meet-requires-clause-within : goal.meet-requires-clause-within
meet-requires-clause-within c = grind (arith, c.args.core.now, read (goal.at.meet-requires-clause-within c).After-begin, lit_about c.args.core.now c.args.place c.trail.ensures.formed c.requires.place)

pub walk_bottom-requires-clause-passed : goal.walk_bottom-requires-clause-passed
walk_bottom-requires-clause-passed c =
    let core = c.args.core.now in
    let at = read (goal.at.walk_bottom-requires-clause-passed c).After-begin in
    let start = begun (goal.at.walk_bottom-requires-clause-passed c).After-begin in
    met_from core c.args.place c.negated.result (value_of c.begin.new.self) (value_of c.meet.new.walk) c.trail.ensures.formed c.requires.place (ap (λ y. y.var) c.negated.ensures ∙ ap (λ y. y.var) at) start c.in_ok-meet.ensures

pub returns-clause-settled : goal.returns-clause-settled
returns-clause-settled c =
    let core = c.args.core.now in
    let at = read (goal.at.returns-clause-settled c).After-begin in
    let start = begun (goal.at.returns-clause-settled c).After-begin in
    let b = c.in_ok-walk_bottom.ensures in
    let w : WalkValue = value_of c.walk_bottom.new.walk in
    let walked = walked_by core c.args.place c.negated.result (value_of c.begin.new.self) (value_of c.meet.new.walk) w c.requires.place c.requires.bottom (ap (λ y. y.var) c.negated.ensures ∙ ap (λ y. y.var) at) start c.in_ok-meet.ensures b.walked b.above in
    unit_line_by core c.args.place w _ walked
    (c.in_ok-push.ensures.items ∙ ap (λ xs. xs ++ c.index-trail-place.result ∷ []) c.in_ok-lits.ensures.items ∙ ap (λ y. y ∷ []) at)
    (c.reverse.ensures.items ∙ ap (λ v. reverse v.items) c.replace-hints.ensures.value)
