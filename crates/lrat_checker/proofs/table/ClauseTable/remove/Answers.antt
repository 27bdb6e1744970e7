use Rattle.std.proofs.{lemmas.{Grind.common_steps, List.with_items_is}, Common.{◌≡◌, ◌⊎◌, map, length, sym, subst, arith}}
use Rattle.lrat_checker.{specs.Stored.{kept_live, IsStored}, proofs.{Removed.{all_held_live, held_kept}, Cleaned.stored_let_go}}
use Rattle.lrat_checker.proofs.table.ClauseTable.remove.Goals as goal

pub returns-clause-answer : goal.returns-clause-answer
returns-clause-answer c = grind (arith, all_held_live)

pub returns-clause-removed : goal.returns-clause-removed
returns-clause-removed c = grind (arith, common_steps, held_kept)

pub invariant_of-self : goal.invariant_of-self
invariant_of-self c =
    let i = c.self.inside in
    let gone = c.args.gone.now in
    let clauses = i.clauses in
    let lists = map (λ v. v.items) i.lists.items in
    let leads = map (λ v. v.items) i.leads.items in
    let new : (c.let_go.new.live ≡ kept_live i.ids.items i.live.items gone) ⊎ (c.let_go.new.live ≡ i.live.items) = grind arith in
    let s = stored_let_go i.vars i.ids.items i.live.items c.let_go.new.live clauses lists leads gone c.self.invariant new in
    let long : length c.let_go.new.live ≡ i.live.len = omega (arith, s.lives, c.self.invariant.lives, i.live.ok.0) in
    subst (λ bs. IsStored i.vars i.ids.items bs clauses lists leads) (sym (with_items_is i.live c.let_go.new.live long)) s
