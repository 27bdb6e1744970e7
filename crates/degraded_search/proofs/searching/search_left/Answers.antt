use Rattle.std.proofs.Common.{◌≡◌, false, List, ap, subst, ◌∙◌, All}
use Rattle.schedule.specs.Links.{TopologyValue}
use Rattle.candidate_order.specs.{declared.candidate.Candidate.Candidate, Frontiers.QuestionValue}
use Rattle.candidate_formula.specs.{Formulas.{formula_for, Suits}, Searched.searched_question, Sizes.size_of, Pruned.is_cut_away}
use Rattle.node_cuts.specs.Cutting.{sets_for}
use Rattle.engine_search.{proofs.{Searched.made_for, Found.found_with}, specs.Found.IsFound}
use Rattle.link_faults.specs.Carrying.{is_carried, narrowed_question}
use Rattle.degraded_search.proofs.{Left.{formula_left, has_group, is_wider, left_question, left_small, links_narrowed, old_searched}, Parted.found_after, Uncut.none_cut_away}
use Rattle.degraded_search.proofs.searching.search_left.Goals as goal

pub new-requires-clause-size : goal.new-requires-clause-size
new-requires-clause-size c =
    let q : QuestionValue = record { topology = c.args.given.now; spec = c.args.spec.now; limits = c.args.limits } in
    left_small q c.args.fault.group c.args.fault.width c.args.left.now c.deref.result.now c.requires.left c.requires.width c.requires.small
    (ap (λ (x : TopologyValue). size_of (record { topology = x; spec = c.args.spec.now; limits = c.args.limits })) c.deref.ensures ∙ c.in_ok-links.ensures.size c.args.limits)

pub new-engine-requires-clause-group : goal.new-engine-requires-clause-group
new-engine-requires-clause-group c = has_group c.args.given.now c.in_ok-before.before c.args.spec.now c.args.fault.group c.args.fault.width c.in_ok-before.ensures c.requires.group

pub new-engine-requires-clause-width : goal.new-engine-requires-clause-width
new-engine-requires-clause-width c = is_wider c.args.given.now c.in_ok-before.before c.args.spec.now c.args.fault.group c.args.fault.width c.in_ok-before.ensures c.requires.width

pub new-engine-requires-clause-topology : goal.new-engine-requires-clause-topology
new-engine-requires-clause-topology c =
    links_narrowed c.args.given.now c.in_ok-before.before c.args.spec.now c.args.fault.group c.args.fault.width c.in_ok-before.ensures c.requires.left
    (ap (λ (p : QuestionValue). p.topology) (c.in_ok-cuts.ensures.same.question ∙ c.in_ok-inner.ensures.question) ∙ c.deref.ensures ∙ c.in_ok-links.ensures.links)

pub new-engine-requires-clause-old : goal.new-engine-requires-clause-old
new-engine-requires-clause-old c =
    let q : QuestionValue = record { topology = c.args.given.now; spec = c.args.spec.now; limits = c.args.limits } in
    old_searched q c.args.old.items c.requires.single c.requires.spec c.requires.old c.in_ok-before.ensures (c.in_ok-cuts.ensures.same.question ∙ c.in_ok-inner.ensures.question)

pub returns-in-Ok : goal.returns-in-Ok
returns-in-Ok c =
    let q : QuestionValue = record { topology = c.args.given.now; spec = c.args.spec.now; limits = c.args.limits } in
    let p : QuestionValue = record { topology = c.args.left.now; spec = c.args.spec.now; limits = c.args.limits } in
    let f = c.in-Ok.frontier in
    let made = made_for p _ _ c.in_ok-inner.ensures.question c.deref.ensures c.in_ok-links.ensures.links in
    let found = found_with _ (formula_for p) _ (Suits (searched_question p))
    (λ x. c.in-Ok.ensures.same.formula x ∙ c.new-engine.ensures.same.formula x ∙ c.in_ok-cuts.ensures.same.formula x ∙ c.in_ok-inner.ensures.formula x ∙ formula_left p _ x made c.requires.single)
    (λ x s suited. subst (λ (o : QuestionValue). Suits o x s) made ((c.in_ok-inner.ensures.suits x s).0 ((c.in_ok-cuts.ensures.same.suits x s).0 ((c.new-engine.ensures.same.suits x s).0 ((c.in-Ok.ensures.same.suits x s).0 suited)))))
    c.in-Ok.ensures.found in
    let is = left_question q c.args.fault.group c.args.fault.width c.requires.left in
    let same : c.frontier_by.new.engine.old.items ≡ c.args.old.items = c.in-Ok.ensures.moves.1 ∙ c.new-engine.ensures.old in
    let sets = c.in-Ok.ensures.moves.0.1 ∙ ap (λ e. e.sets) c.new-engine.ensures.inner ∙ c.in_ok-cuts.ensures.sets ∙ c.of.ensures ∙ ap sets_for c.pruning.ensures in
    let asked = c.in-Ok.ensures.same.question ∙ c.new-engine.ensures.same.question ∙ c.in_ok-cuts.ensures.same.question ∙ made in
    found_after (narrowed_question q c.args.fault.group c.args.fault.width) c.args.old.items c.old.result.now f (c.old.ensures.old ∙ same)
    (subst (λ x. IsFound x f) is found)
    (subst (λ (xs : List Candidate). All (λ p. is_carried xs p.candidate ≡ false) f.points) same c.nothing_is_left_open.ensures.points)
    (subst (λ (xs : List Candidate). All (λ u. is_carried xs u.candidate ≡ false) f.unknown) same c.nothing_is_left_open.ensures.unknown)
    (subst (λ x. All (λ u. is_cut_away x u.candidate ≡ false) f.unknown) is (none_cut_away p f asked sets c.nothing_is_left_open.ensures.uncut))
    c.new-in-Ok.result c.new-in-Ok.ensures.frontier c.new-in-Ok.ensures.parted
