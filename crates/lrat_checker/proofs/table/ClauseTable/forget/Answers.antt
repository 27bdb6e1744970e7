use Rattle.std.proofs.{Common.{◌+◌, ◌<◌, ◌≤◌, ℕ, List, [], ◌∷◌, ◌++◌, false, length, get_or, sym, ap, ◌∙◌, subst, arith, if◌then◌else◌}, lemmas.List.get_or_read}
use Rattle.cnf_formula.specs.Literals.{LitValue}
use Rattle.lrat_checker.{specs.Stored.{TableValue, HasForgotten}, proofs.{Forgotten.{IsPart, part_push, part_skip, part_all}, table.ClauseTable.forget.Goals.{then-held+in_ok-push, else-held+else-place-first}}}
use Rattle.lrat_checker.proofs.table.ClauseTable.forget.Goals as goal

pub push-requires-clause-above : goal.push-requires-clause-above
push-requires-clause-above c =
    let ids = c.self.inside.ids.items in
    let k = c.loop-place.place in
    let w : k < length ids = omega (arith, c.loop-place-test.true, c.loop-place.auto.place-end, c.len-place-end.ensures) in
    let at = get_or_read ids k c.index.result.now w c.index.ensures 0 in
    let below = c.loop-place.invariant.below k (omega arith) w in
    omega (arith, at, below)

pub loop-place-preserved : goal.loop-place-preserved
loop-place-preserved c =
    let i = c.self.inside in
    let k = c.loop-place.place in
    let t = c.loop-place.table in
    let b = c.index-held.result.now in
    let s = c.self.invariant in
    let clauses = i.clauses in
    let w : k < length i.ids.items = omega (arith, c.loop-place-test.true, c.loop-place.auto.place-end, c.len-place-end.ensures) in
    let live = sym (get_or_read i.live.items k b (omega (arith, w, s.lives)) c.index-held.ensures false) in
    elim c.if-held.branch [
      | then-held+in_ok-push x ↦
          let number = get_or_read i.ids.items k x.index.result.now w x.index.ensures 0 in
          let make : ℕ → List LitValue → TableValue = λ n ls. record { vars = t.vars; clauses = t.clauses ++ ls ∷ []; held = t.held ++ (if b then (n, ls) ∷ [] else []); last = n } in
          let is = x.table-is ∙ x.in_ok-push.ensures.added ∙ ap (λ n. make n x.clause.result.now) number ∙ ap (make (get_or i.ids.items k 0)) x.clause.ensures in
          subst (IsPart i.vars c.args.first (k + 1) i.ids.items i.live.items clauses) (sym is) (part_push i.vars c.args.first k i.ids.items i.live.items clauses t s.rises s.lives s.many w c.loop-place.invariant b live)
      | else-held+else-place-first x ↦
          let none = live ∙ x.if-held.false in
          let low : c.args.first ≤ k = omega (arith, x.if-place-first.false) in
          subst (IsPart i.vars c.args.first (k + 1) i.ids.items i.live.items clauses) (sym x.table-is) (part_skip i.vars c.args.first k i.ids.items i.live.items clauses t s.rises s.lives s.many w c.loop-place.invariant none low)
    ]

pub returns-clause-fewer : goal.returns-clause-fewer
returns-clause-fewer c =
    let i = c.self.inside in
    let k = c.loop-place.place in
    let s = c.self.invariant in
    let clauses = i.clauses in
    let first = c.args.first in
    let high : length i.ids.items ≤ k = omega (arith, c.loop-place-test.false, c.loop-place.auto.place-end, c.len-place-end.ensures) in
    let low : first ≤ length clauses = omega (arith, c.requires, ap (λ t. length t.clauses) c.self.view_is) in
    subst (HasForgotten first c.args.self.now) (sym c.table-2.view_is)
    (subst (λ v. HasForgotten first v c.loop-place.table) c.self.view_is (part_all i.vars first k i.ids.items i.live.items clauses c.loop-place.table s.lives s.many low high c.loop-place.invariant))
