use Rattle.std.proofs.Common.{arith, ℕ, List, Option, get_or, sym, ap, ◌∙◌, rules, pos, w64, SFits}
use Rattle.cnf_formula.specs.Literals.{LitValue}
use Rattle.proof_rules.specs.{Held.clause_at, Judging.{Fault, group_fault}}
use Rattle.lrat_checker.proofs.Grouped.{group_at, none_from, group_number}
use Rattle.lrat_checker.proofs.redundancy.groups_fault.Goals as goal

pub returns-then-is_some-clause-fault : goal.returns-then-is_some-clause-fault
returns-then-is_some-clause-fault c = grind (arith, group_number)

pub loop-at-preserved : goal.loop-at-preserved
loop-at-preserved c =
    let held = c.args.table.now.held in
    let hints = c.args.hints.now in
    let start = c.args.marks.now.falses in
    let at = c.loop-at.at in
    let i = c.loop-at.invariant in
    let n = i.negative c.loop-at-test.true in
    let fits : SFits w64 (get_or hints at (pos 0)) = search rules in
    let id = group_number hints at n.0 c.unsigned_abs-id.result c.loop-at-test.true fits n.1 c.unsigned_abs-id.ensures.value in
    let say : List LitValue → ℕ → Option Fault = λ fs k. group_fault held c.args.pivot fs i.left.earlier (group_at held c.args.pivot start hints at k) (clause_at held k) in
    let none = none_from c.in_ok-fault.fault (sym c.is_some.ensures ∙ c.if-is_some.false) in
    let passed = sym (ap (λ fs. say fs c.unsigned_abs-id.result) (ap (λ m. m.falses) i.marks) ∙ ap (say start) id) ∙ sym (c.in_ok-fault.ensures.fault i.left.earlier i.left.same) ∙ none in
    grind arith
