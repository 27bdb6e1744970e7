use Rattle.std.proofs.{Common.{arith, ◌≡◌, ◌∙◌, ap, subst}, lemmas.Grind.common_steps}
use Rattle.candidate_order.specs.Frontiers.{QuestionValue}
use Rattle.node_cuts.specs.Cutting.{sets_for}
use Rattle.candidate_formula.specs.Formulas.{Suits}
use Rattle.candidate_solver.specs.Questions.{asked}
use Rattle.engine_search.proofs.{Searched.made_for, Found.found_with}
use Rattle.report_search.proofs.{Recorded.{alike, begun_for, filed_for}, Keeping.{keeps_single, takes_single}, Uncut.{cut_in_place, reached_uncut, runs_below, shelved_uncut, stays_below, unknown_uncut}}
use Rattle.report_search.proofs.single.single_frontier.Goals as goal

pub returns-clause-begun : goal.returns-clause-begun
returns-clause-begun g c =
    let q : QuestionValue = record { topology = c.args.topology.now; spec = c.args.spec.now; limits = c.args.limits } in
    let made = c.in_ok-engine.ensures.same.question ∙ made_for q _ _ c.in_ok-inner.ensures.question c.deref.ensures c.in_ok-links.ensures.links in
    let engine = c.frontier_by.new.engine in
    let own : QuestionValue = asked engine.inner.inner.question in
    let moves = c.frontier_by.ensures.moves in
    let sets : engine.sets ≡ sets_for q.limits.pruning = moves.1 ∙ (c.in_ok-engine.ensures.sets ∙ (c.of-sets.ensures ∙ ap sets_for c.pruning.ensures)) in
    begun_for q moves.0.moves made c.requires.single (stays_below engine.sets c.frontier_by.ensures.within c.frontier_by.ensures.same.question engine.kept engine.stops)
    (reached_uncut q own engine.sets _ engine.kept engine.uncut (cut_in_place q own engine.sets (c.frontier_by.ensures.same.question ∙ made) sets))
    (ap (λ e. e.part) c.in_ok-engine.ensures.inner ∙ c.in_ok-inner.ensures.part)

pub returns-clause-keeps : goal.returns-clause-keeps
returns-clause-keeps g c = λ is_kept told.
    let q : QuestionValue = record { topology = c.args.topology.now; spec = c.args.spec.now; limits = c.args.limits } in
    let made = c.in_ok-engine.ensures.same.question ∙ made_for q _ _ c.in_ok-inner.ensures.question c.deref.ensures c.in_ok-links.ensures.links in
    keeps_single q _ _ c.args.part _ _ made c.requires.single (ap (λ e. e.part) c.in_ok-engine.ensures.inner ∙ c.in_ok-inner.ensures.part)
    (ap (λ e. e.kept) c.in_ok-engine.ensures.inner ∙ (c.in_ok-inner.ensures.kept ∙ is_kept)) c.frontier_by.ensures.moves.0 told

pub returns-in-Ok : goal.returns-in-Ok
returns-in-Ok g c =
    let q : QuestionValue = record { topology = c.args.topology.now; spec = c.args.spec.now; limits = c.args.limits } in
    let below = made_for q _ _ c.in_ok-inner.ensures.question c.deref.ensures c.in_ok-links.ensures.links in
    let made = c.in_ok-engine.ensures.same.question ∙ below in
    let engine = c.frontier_by.new.engine in
    let own : QuestionValue = asked engine.inner.inner.question in
    let searched = c.frontier_by.ensures in
    let found = c.in-Ok.ensures in
    let cut = c.cuts_are_refuted.ensures in
    let moves = searched.moves in
    let sets : engine.sets ≡ sets_for q.limits.pruning = moves.1 ∙ (c.in_ok-engine.ensures.sets ∙ (c.of-sets.ensures ∙ ap sets_for c.pruning.ensures)) in
    let in_place = cut_in_place q own engine.sets (searched.same.question ∙ made) sets in
    let part = ap (λ e. e.part) c.in_ok-engine.ensures.inner ∙ c.in_ok-inner.ensures.part in
    let kept = ap (λ e. e.kept) c.in_ok-engine.ensures.inner ∙ c.in_ok-inner.ensures.kept in
    record {
      found = found_with _ _ _ _ (λ x. searched.same.formula x ∙ (c.in_ok-engine.ensures.same.formula x ∙ (c.in_ok-inner.ensures.formula x ∙ alike q _ below c.requires.single x)))
          (λ x s suited. subst (λ p. Suits p x s) below ((c.in_ok-inner.ensures.suits x s).0 ((c.in_ok-engine.ensures.same.suits x s).0 ((searched.same.suits x s).0 suited)))) found.found;
      uncut = unknown_uncut q own engine.sets in_place c.in-Ok.frontier cut.points cut.unknown;
      told = moves.0.moves.tells;
      shelved = λ told.
          shelved_uncut q own engine.sets in_place c.in-Ok.frontier cut.points cut.unknown
          (filed_for q moves.0.moves made c.requires.single cut.inner found.goes_on.agrees (runs_below engine.stops found.goes_on.running) part told);
      takes = λ is_kept told.
          takes_single q _ _ _ c.in-Ok.frontier c.args.part _ _ engine.sets made c.requires.single searched.same.question sets cut.inner part
          (ap (λ e. e.tried.entries) c.in_ok-engine.ensures.inner ∙ c.in_ok-inner.ensures.entries) (kept ∙ is_kept) moves.0 told;
      keeps = λ is_kept told. keeps_single q _ _ c.args.part _ _ made c.requires.single part (kept ∙ is_kept) moves.0 told;
      begun = begun_for q moves.0.moves made c.requires.single (stays_below engine.sets searched.within searched.same.question engine.kept engine.stops) (reached_uncut q own engine.sets _ engine.kept engine.uncut in_place) part;
      cause = grind (arith, common_steps);
    }
