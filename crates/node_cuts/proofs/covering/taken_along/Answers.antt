use Rattle.std.proofs.Common.{◌≡◌, ◌+◌, ℕ, suc, Bool, List, [], ◌∷◌, ◌++◌, cond, drop, drop-cons, get_or, sym, ap, ◌∙◌, subst, arith}
use Rattle.schedule.specs.Judging.{group_at}
use Rattle.node_cuts.{specs.{Cuts.{opens, taken_along}, Opened.{MarksOpen, is_open}}, proofs.Opening.{taken_next, told}}
use Rattle.node_cuts.proofs.covering.taken_along.Goals as goal

pub loop-number-preserved : goal.loop-number-preserved
loop-number-preserved c u start =
    let t = c.args.topology.now in
    let numbers : List ℕ = c.args.numbers.now in
    let i : ℕ = c.loop-number.number-index in
    let n : ℕ = get_or numbers i 0 in
    let groups : List ℕ = c.loop-number.groups.items in
    let cells : List Bool = c.loop-number.uncovered.cells in
    let prior = c.loop-number.invariant u start in
    let opened : is_open cells (group_at t n) ≡ opens u t groups n = told u t groups cells prior.1 n c.in_ok-take_group.ensures.limits in
    let one : suc i ≡ i + 1 = omega arith in
    let split : drop i numbers ≡ n ∷ drop (i + 1) numbers = drop-cons numbers i 0 c.loop-number-test.true ∙ ap (λ k. n ∷ drop k numbers) one in (
      ap (λ gs. taken_along u t gs (drop (i + 1) numbers)) (c.in_ok-take_group.ensures.taken ∙ ap (λ b. groups ++ cond b (n ∷ []) []) opened) ∙ ap (taken_along u t groups) (sym split) ∙ prior.0,
      subst (MarksOpen c.take_group.new.uncovered.cells u t) (sym c.in_ok-take_group.ensures.taken)
          (taken_next u t groups cells prior.1 n (is_open cells (group_at t n)) c.take_group.new.uncovered.cells c.in_ok-take_group.ensures.left),
    )
