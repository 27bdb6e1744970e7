use Rattle.std.proofs.{Common.{◌≡◌, ℕ, zero, suc, ◌≤◌, true, Some, refl, sym, subst, arith}, lemmas.Bool.false≢true}
use Rattle.schedule.specs.{Placed.holds, Running.after, Rows.{at_root, everywhere}}
use Rattle.chunk_order.specs.{Alike.watch_node, Rows.in_turn}
use Rattle.chunk_order.proofs.vectors.in_turn_is_ordered.Goals as goal

-- after each step node 1 has the first chunk where it has the second
first_there : (step : ℕ) → step ≤ 3 → holds (after (at_root 2 3) in_turn step) (1, 1) ≡ true → holds (after (at_root 2 3) in_turn step) (0, 1) ≡ true
first_there zero low held = absurd (false≢true held)
first_there (suc zero) low held = refl
first_there (suc (suc zero)) low held = refl
first_there (suc (suc (suc zero))) low held = refl
first_there (suc (suc (suc (suc k)))) low held = absurd (omega (arith, low))

at_node : (node : ℕ) → watch_node (at_root 2 3) (everywhere 2 3) 0 ≡ Some node → 1 ≡ node
at_node node watch = let here : Some 1 ≡ Some node = watch in cc

pub returns-clause-ordered : goal.returns-clause-ordered
returns-clause-ordered c = λ c d node step less dl alike watch low held.
    let zeroth : 0 ≡ c = omega (arith, less, dl) in
    let first : 1 ≡ d = omega (arith, less, dl) in
    let here : 1 ≡ node = at_node node (subst (λ v. watch_node (at_root 2 3) (everywhere 2 3) v ≡ Some node) (sym zeroth) watch) in
    let old : holds (after (at_root 2 3) in_turn step) (1, 1) ≡ true =
    subst (λ v. holds (after (at_root 2 3) in_turn step) (1, v) ≡ true) (sym here) (subst (λ v. holds (after (at_root 2 3) in_turn step) (v, node) ≡ true) (sym first) held) in
    subst (λ v. holds (after (at_root 2 3) in_turn step) (v, node) ≡ true) zeroth (subst (λ v. holds (after (at_root 2 3) in_turn step) (0, v) ≡ true) here (first_there step low old))
