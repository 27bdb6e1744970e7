use Rattle.std.{proofs.{Common.{ℕ, Bool, List, [], ◌∷◌, ◌++◌, cond, filter, get_or, take, sym, ap, ◌∙◌}, lemmas.List.{append-nil, Elements.filter_more}}, specs.List.list_any}
use Rattle.schedule.specs.{Links.GroupValue, Tables.marked_at, Judging.group_at}
use Rattle.node_cuts.{specs.Opened.is_open, proofs.greedy.still_open.Goals.{then-any+in_ok-push, else-any}}
use Rattle.node_cuts.proofs.greedy.still_open.Goals as goal

pub loop-number-preserved : goal.loop-number-preserved
loop-number-preserved c =
    let keeps : ℕ → Bool = λ group. is_open c.args.uncovered.now.cells (group_at c.args.topology.now group) in
    let told = c.any.ensures ∙ ap (list_any (marked_at c.args.uncovered.now.cells)) (c.links.ensures.links ∙ ap (λ (w : GroupValue). w.links) c.group_at.ensures.group) in
    let more = λ (b : Bool). λ (left : List ℕ). left ++ cond b (get_or c.args.numbers.now c.loop-number.number-index 0 ∷ []) [] in
    elim c.if-any.branch [
      | then-any+in_ok-push w ↦ ap (λ v. v.items) w.left-is ∙ w.in_ok-push.ensures.items ∙ (λ k. more ((sym w.if-any.true ∙ told) k) (c.loop-number.invariant k)) ∙ sym (filter_more keeps c.args.numbers.now c.loop-number.number-index 0 c.loop-number-test.true)
      | else-any w ↦ ap (λ v. v.items) w.left-is ∙ c.loop-number.invariant ∙ sym (append-nil _) ∙ (λ k. more ((sym w.if-any.false ∙ told) k) (filter keeps (take c.loop-number.number-index c.args.numbers.now))) ∙ sym (filter_more keeps c.args.numbers.now c.loop-number.number-index 0 c.loop-number-test.true)
    ]
