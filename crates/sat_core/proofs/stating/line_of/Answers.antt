use Rattle.std.proofs.Common.{◌≡◌, refl, sym, ap, ◌∙◌, get_or, true}
use Rattle.cnf_formula.specs.Literals.{LitValue, code_of}
use Rattle.conflict_analysis.{specs.{Met.lit_at, UnitLines.denied}, proofs.Resolved.place_read}
use Rattle.sat_core.proofs.{Hinted.hints_names, Readiness.ready_same, Turning.none_by, Stated.{HasUnitLine, stating_is, stating_about}}
use Rattle.sat_core.proofs.stating.line_of.Goals as goal

pub named-requires : goal.named-requires
named-requires c =
    let unit = c.in_ok-unit.unit in
    let is = c.in_ok-unit.ensures.settled in
    record { known = hints_names c.args.core.now.clauses (denied c.args.core.now c.args.place) is.resolved is.conflict unit.lits unit.hints _ is.analysis is.hints c.requires.guided.listed.names }

pub subset_of-requires : goal.subset_of-requires
subset_of-requires c = stating_about c.args.core.now c.args.place _ _ c.trail.ensures.formed c.requires.place c.requires.guided.sleepers (c.deref.ensures.value ∙ ap (λ l. l.lits) c.line.view_is ∙ c.in_ok-line.ensures.line.lits ∙ c.in_ok-unit.ensures.settled.lits)

pub returns-in_err-line-clause-ready : goal.returns-in_err-line-clause-ready
returns-in_err-line-clause-ready c = λ base lines r. ready_same base lines c.args.core.now c.args.core.now _ _ _ r refl refl c.named.ensures.names c.named.ensures.formula c.named.ensures.held

pub returns-in-Some-clause-ready : goal.returns-in-Some-clause-ready
returns-in-Some-clause-ready c = λ base lines r. rw c.subset_of.ensures.same (ready_same base lines c.args.core.now c.args.core.now _ _ _ r refl refl c.named.ensures.names c.named.ensures.formula c.named.ensures.held)

pub returns-clause-ready : goal.returns-clause-ready
returns-clause-ready c = λ base lines r. rw c.subset_of.ensures.same (ready_same base lines c.args.core.now c.args.core.now _ _ _ r refl refl c.named.ensures.names c.named.ensures.formula c.named.ensures.held)

pub returns-clause-line : goal.returns-clause-line
returns-clause-line c = λ base lines ready.
    let core = c.args.core.now in
    let guide = c.args.guide.now in
    let line = c.in_ok-line.line in
    let x : LitValue = c.index-trail-place.result in
    let at : x ≡ lit_at core c.args.place = place_read core c.trail.result.now c.args.place x c.trail.ensures.value c.requires.place c.index-trail-place.is in
    let t : HasUnitLine base lines core guide.awake guide.sleepers c.args.place c.in_ok-unit.unit line = record { ready = ready; formed = c.trail.ensures.formed; within = c.requires.place; is = c.in_ok-unit.ensures.settled; named = c.in_ok-line.ensures.line } in
    let none = none_by guide.sleepers _ line.lits (c.deref.ensures.value ∙ ap (λ l. l.lits) c.line.view_is) c.in_default.ensures.found in
    stating_is base lines core guide.awake _ guide.sleepers c.args.place c.in_ok-unit.unit line c.args.stated.now t c.named.ensures.held c.requires.stated (ap (λ y. get_or c.args.stated.now (code_of y) true) (sym at) ∙ c.is_stated.ensures c.if-is_stated.false) none
