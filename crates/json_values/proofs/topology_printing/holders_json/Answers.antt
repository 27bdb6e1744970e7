use Rattle.std.{proofs.Common.{◌≡◌, ℕ, Bool, true, false, [], ◌∷◌, ◌++◌, map, sym, ap, ◌∙◌}, specs.List.{filter, range_with_len}}
use Rattle.schedule.specs.Placed.{holds}
use Rattle.serde_json.specs.{Data.{Data, string}, View.view}
use Rattle.topology_text.{specs.Spelling.name_at, proofs.Printed.name_skipped}
use Rattle.json_values.proofs.{Printing.{pushed, passed_more}, topology_printing.holders_json.Goals.{then-holds+in_ok-try_from_str+in_ok-push, else-holds}}
use Rattle.json_values.proofs.topology_printing.holders_json.Goals as goal

pub loop-node-preserved : goal.loop-node-preserved
loop-node-preserved c =
    let names = c.args.names.now in
    let n = c.loop-node.node in
    let held : ℕ → Bool = λ node. holds c.args.held.now (c.args.chunk, node) in
    let made : ℕ → Data = λ node. string (name_at names node) in
    let test : c.holds.result ≡ held n = c.holds.ensures.held ∙ ap (λ g. holds c.args.held.now (g, n)) c.from.ensures in
    elim c.if-holds.branch [
      | then-holds+in_ok-try_from_str+in_ok-push w ↦
          let here : held n ≡ true = sym test ∙ w.if-holds.true in
          let value : view w.in_ok-try_from_str.field-0 ≡ made n = w.in_ok-try_from_str.ensures ∙ ap string w.node_text.ensures in
          let items : c.if-holds.list.items ≡ c.loop-node.list.items ++ w.in_ok-try_from_str.field-0 ∷ [] = ap (λ v. v.items) w.list-is ∙ w.in_ok-push.ensures.items in
          pushed c.loop-node.list.items c.if-holds.list.items w.in_ok-try_from_str.field-0 (map made (filter held (range_with_len 0 n))) (made n) items c.loop-node.invariant value ∙ sym (passed_more made held n here)
      | else-holds w ↦
          let here : held n ≡ false = sym test ∙ w.if-holds.false in
          ap (λ v. map view v.items) w.list-is ∙ c.loop-node.invariant ∙ ap (map made) (sym (name_skipped held n here))
    ]
