use Rattle.std.proofs.Common.{eqb, ℕ, Bool, eq-eqb, ne_eqb, get_or, rules}
use Rattle.cnf_formula.{specs.Literals.LitValue, proofs.Keeping.{keeps_it, passes_over, kept_all}}
use Rattle.send_encoding.{specs.Variables.sent, proofs.arriving.push_sends_into.Goals.{then-link-node+in_ok-push, else-link-node}}
use Rattle.send_encoding.proofs.arriving.push_sends_into.Goals as goal

pub loop-number-preserved : goal.loop-number-preserved
loop-number-preserved c =
    let xs = c.links-link-items.result.now in
    let i = c.loop-number.number in
    let f : ℕ × (ℕ × ℕ) → LitValue = λ x. sent c.args.map.now c.args.chunk x.0 c.args.step in
    let p : ℕ × (ℕ × ℕ) → Bool = λ x. eqb x.1.1 c.args.node in
    elim c.if-link-node.branch [
      | then-link-node+in_ok-push w ↦
          keeps_it f p xs i (0, 0) c.args.clause.now.items c.loop-number.clause.items c.if-link-node.clause.items c.loop-number-test.true (eq-eqb (get_or xs i (0, 0)).1 c.args.node w.if-link-node.true) c.loop-number.invariant (search rules)
      | else-link-node w ↦
          passes_over f p xs i (0, 0) c.args.clause.now.items c.loop-number.clause.items c.if-link-node.clause.items c.loop-number-test.true (ne_eqb (get_or xs i (0, 0)).1 c.args.node w.if-link-node.false) c.loop-number.invariant (search rules)
    ]

pub returns : goal.returns
returns c =
    kept_all (λ x. sent c.args.map.now c.args.chunk x.0 c.args.step) (λ x. eqb x.1.1 c.args.node) c.args.clause.now.items c.loop-number.clause.items c.links-link-items.result.now c.args.map.now.links c.loop-number.number
    c.links-link-items.ensures.links c.loop-number-test.false c.loop-number.invariant
