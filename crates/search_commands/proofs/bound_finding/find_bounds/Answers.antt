use Rattle.std.proofs.Common.{◌≡◌, ◌∙◌, ap, subst}
use Rattle.outer_ports.specs.declared.part.Part.TheVariants.{Whole}
use Rattle.candidate_order.specs.Frontiers.{QuestionValue}
use Rattle.candidate_formula.{specs.{Formulas.Suits, Searched.searched_question}, proofs.CutAway.never_cut_away}
use Rattle.cut_bounds.specs.Parting.{without_cuts}
use Rattle.engine_search.proofs.{Searched.made_for, Found.found_with}
use Rattle.report_search.{specs.Shelved.IsShelved, proofs.{Recorded.{alike, begun_for, filed_for}, Uncut.{runs_below, shelved_plain, stays_below}}}
use Rattle.search_commands.{specs.Bounded.AreBounds, proofs.{Bounding.bounds_are, Passed.passed_on}}
use Rattle.search_commands.proofs.bound_finding.find_bounds.Goals as goal

pub returns-in_err-frontier-clause-begun : goal.returns-in_err-frontier-clause-begun
returns-in_err-frontier-clause-begun g c =
    let q : QuestionValue = record { topology = c.args.topology.now; spec = c.args.spec.now; limits = c.args.limits } in
    let made = c.in_ok-engine.ensures.same.question ∙ made_for q _ _ c.in_ok-inner.ensures.question c.deref.ensures c.in_ok-links.ensures.links in
    let engine = c.frontier_by.new.engine in
    begun_for q c.frontier_by.ensures.moves.0 made c.requires.single (stays_below engine.sets c.frontier_by.ensures.within c.frontier_by.ensures.same.question engine.kept engine.stops) (λ x reached. never_cut_away q x (ap (λ p. p.cuts) c.requires.plain))
    (ap (λ e. e.part) c.in_ok-engine.ensures.inner ∙ c.in_ok-inner.ensures.part)

pub returns-in_err-refuted-clause-begun : goal.returns-in_err-refuted-clause-begun
returns-in_err-refuted-clause-begun g c =
    let q : QuestionValue = record { topology = c.args.topology.now; spec = c.args.spec.now; limits = c.args.limits } in
    let made = c.in_ok-engine.ensures.same.question ∙ made_for q _ _ c.in_ok-inner.ensures.question c.deref.ensures c.in_ok-links.ensures.links in
    let engine = c.frontier_by.new.engine in
    begun_for q c.frontier_by.ensures.moves.0 made c.requires.single (stays_below engine.sets c.frontier_by.ensures.within c.frontier_by.ensures.same.question engine.kept engine.stops) (λ x reached. never_cut_away q x (ap (λ p. p.cuts) c.requires.plain))
    (ap (λ e. e.part) c.in_ok-engine.ensures.inner ∙ c.in_ok-inner.ensures.part)

pub returns-clause-bounds : goal.returns-clause-bounds
returns-clause-bounds g c =
    let q : QuestionValue = record { topology = c.args.topology.now; spec = c.args.spec.now; limits = c.args.limits } in
    let made = made_for q _ _ c.in_ok-inner.ensures.question c.deref.ensures c.in_ok-links.ensures.links in
    let sets : c.frontier_by.new.engine.sets ≡ c.args.sets = c.frontier_by.ensures.moves.1 ∙ c.in_ok-engine.ensures.sets in
    subst (λ s. AreBounds s q (record { frontier = c.in_ok-frontier.frontier; refuted = c.in_ok-refuted.refuted; floor = c.floor.result })) sets
    (bounds_are (c.frontier_by.ensures.same.question ∙ (c.in_ok-engine.ensures.same.question ∙ made))
    (found_with _ _ _ _ (λ x. c.frontier_by.ensures.same.formula x ∙ (c.in_ok-engine.ensures.same.formula x ∙ (c.in_ok-inner.ensures.formula x ∙ alike q _ made c.requires.single x)))
    (λ x s suited. subst (λ p. Suits p x s) made ((c.in_ok-inner.ensures.suits x s).0 ((c.in_ok-engine.ensures.same.suits x s).0 ((c.frontier_by.ensures.same.suits x s).0 suited)))) c.in_ok-frontier.ensures.found)
    c.cuts_are_refuted.ensures.points c.cuts_are_refuted.ensures.unknown c.in_ok-refuted.ensures.cuts c.in_ok-refuted.ensures.others c.floor.ensures)

pub returns-clause-shelved : goal.returns-clause-shelved
returns-clause-shelved g c = λ told.
    let q : QuestionValue = record { topology = c.args.topology.now; spec = c.args.spec.now; limits = c.args.limits } in
    let made = c.in_ok-engine.ensures.same.question ∙ made_for q _ _ c.in_ok-inner.ensures.question c.deref.ensures c.in_ok-links.ensures.links in
    let engine = c.frontier_by.new.engine in
    let sets : engine.sets ≡ c.args.sets = c.frontier_by.ensures.moves.1 ∙ c.in_ok-engine.ensures.sets in
    let filed = filed_for q c.frontier_by.ensures.moves.0 made c.requires.single c.cuts_are_refuted.ensures.inner c.in_ok-frontier.ensures.goes_on.agrees (runs_below engine.stops c.in_ok-frontier.ensures.goes_on.running) (ap (λ e. e.part) c.in_ok-engine.ensures.inner ∙ c.in_ok-inner.ensures.part) told in
    let shelved = shelved_plain (ap (λ p. p.cuts) c.requires.plain) filed in
    subst (λ s. IsShelved Whole q (without_cuts s (searched_question q) c.in_ok-frontier.frontier) (g.H.Shelf.file c.args.shelf.now) (g.H.Shelf.file c.frontier_by.new.store)) sets
    (subst (λ p. IsShelved Whole q (without_cuts engine.sets p c.in_ok-frontier.frontier) (g.H.Shelf.file c.args.shelf.now) (g.H.Shelf.file c.frontier_by.new.store)) (c.frontier_by.ensures.same.question ∙ made) shelved)

pub returns-clause-begun : goal.returns-clause-begun
returns-clause-begun g c =
    let q : QuestionValue = record { topology = c.args.topology.now; spec = c.args.spec.now; limits = c.args.limits } in
    let made = c.in_ok-engine.ensures.same.question ∙ made_for q _ _ c.in_ok-inner.ensures.question c.deref.ensures c.in_ok-links.ensures.links in
    let engine = c.frontier_by.new.engine in
    begun_for q c.frontier_by.ensures.moves.0 made c.requires.single (stays_below engine.sets c.frontier_by.ensures.within c.frontier_by.ensures.same.question engine.kept engine.stops) (λ x reached. never_cut_away q x (ap (λ p. p.cuts) c.requires.plain))
    (ap (λ e. e.part) c.in_ok-engine.ensures.inner ∙ c.in_ok-inner.ensures.part)

pub returns-in_err-frontier-clause-cause : goal.returns-in_err-frontier-clause-cause
returns-in_err-frontier-clause-cause g c = passed_on _ c.in_err-frontier.field-0.0 c.frontier_by.result c.from_residual-in_err-frontier.result _ _ c.in_err-frontier.was c.from_residual-in_err-frontier.ensures.1 c.frontier_by.ensures.cause
