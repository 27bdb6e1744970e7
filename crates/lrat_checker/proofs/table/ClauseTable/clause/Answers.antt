use Rattle.std.{proofs.{Common.{◌≡◌, ◌<◌, [], length, get_or, Some, None, false, sym, ap, ◌∙◌, subst, arith, if◌then◌else◌}, lemmas.List.get_or_read}, specs.Option.option_copied}
use Rattle.proof_rules.specs.Held.{clause_at}
use Rattle.lrat_checker.{specs.Stored.held_of, proofs.{Placed.{Others, not_held, held_at}, table.ClauseTable.clause.Goals.After-index}}
use Rattle.lrat_checker.proofs.table.ClauseTable.clause.Goals as goal

pub returns-in_err-place-clause-held : goal.returns-in_err-place-clause-held
returns-in_err-place-clause-held c =
    let i = c.self.inside in
    let id = c.args.id in
    ap option_copied c.from_residual.ensures ∙ sym (ap (λ h. clause_at h id) (sym (ap (λ t. t.held) c.self.view_is)) ∙ (not_held i.ids.items i.live.items i.clauses id (subst (Others id) c.deref.ensures.value c.in_err-place.ensures)))

found : (c : After-index) → (c.in_ok-place.place < length c.self.inside.ids.items) × (get_or c.self.inside.ids.items c.in_ok-place.place 0 ≡ c.args.id)
found c = (subst (λ xs. c.in_ok-place.place < length xs) c.deref.ensures.value c.in_ok-place.ensures.0, ap (λ xs. get_or xs c.in_ok-place.place 0) (sym c.deref.ensures.value) ∙ c.in_ok-place.ensures.1)

held : (c : After-index) → clause_at c.args.self.now.held c.args.id ≡ (if c.index.result.now then Some (get_or c.self.inside.clauses c.in_ok-place.place []) else None)
held c =
    let i = c.self.inside in
    let place = c.in_ok-place.place in
    let at = found c in
    let live = sym (get_or_read i.live.items place c.index.result.now (omega (arith, at.0, c.self.invariant.lives)) c.index.ensures false) in
    ap (λ t. clause_at t.held c.args.id) (sym c.self.view_is) ∙ ap (clause_at (held_of i.ids.items i.live.items i.clauses)) (sym at.1)
    ∙ held_at i.ids.items i.live.items i.clauses place c.self.invariant.rises c.self.invariant.lives c.self.invariant.many at.0 ∙ ap (λ b. if b then Some (get_or i.clauses place []) else None) live

pub returns-then-index-clause-held : goal.returns-then-index-clause-held
returns-then-index-clause-held c = grind (arith, held (goal.at.returns-then-index-clause-held c).After-index)

pub returns-else-index-clause-held : goal.returns-else-index-clause-held
returns-else-index-clause-held c = grind (arith, held (goal.at.returns-else-index-clause-held c).After-index)
