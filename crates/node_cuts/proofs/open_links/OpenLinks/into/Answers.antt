use Rattle.std.proofs.Common.{◌≡◌, ◌/◌, ◌%◌, ◌&&◌, ℕ, length-set, arith, sym, ap, ◌∙◌, not}
use Rattle.node_cuts.{specs.{Sides.NodeSet, inner.Listed.members, Cuts.enters}, proofs.{Filling.filled, open_links.OpenLinks.into.Goals.{then-not-has, else-not-has}}}
use Rattle.node_cuts.proofs.open_links.OpenLinks.into.Goals as goal

pub loop-cell-preserved : goal.loop-cell-preserved
loop-cell-preserved c =
    let u : NodeSet = members c.args.set in
    let n : ℕ = c.loop-cell.cell in
    let from_in : c.has.result ≡ u (n / 16) = c.has.ensures in
    let is : c.if-not-has.cells ≡ enters u (n / 16, n % 16) = elim c.if-not-has.branch [
      | then-not-has w ↦ w.cells-is ∙ w.has-then-not-has.ensures ∙ ap (λ b. not b && u (n % 16)) (sym w.if-not-has.true ∙ from_in)
      | else-not-has w ↦ w.cells-is ∙ ap not w.if-not-has.false ∙ ap (λ b. not b && u (n % 16)) (sym w.if-not-has.false ∙ from_in)
    ] in
    record {
      told = filled c.loop-cell.cells n c.if-not-has.cells (λ k. enters u (k / 16, k % 16)) (omega (arith, c.loop-cell-test.true, c.loop-cell.invariant.whole)) c.loop-cell.invariant.told is;
      whole = length-set c.loop-cell.cells n c.if-not-has.cells ∙ c.loop-cell.invariant.whole;
    }
