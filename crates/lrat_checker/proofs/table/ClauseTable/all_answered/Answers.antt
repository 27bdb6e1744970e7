use Rattle.std.{proofs.{Common.{◌≡◌, ◌<◌, true, [], length, map, get_or, sym, ap, ◌∙◌, subst, arith, All, filter}, lemmas.List.{length-map, length-set}}, specs.List.list_all}
use Rattle.cnf_formula.specs.Literals.{code_of, negation}
use Rattle.list_laws.proofs.Fronts.{at_map}
use Rattle.proof_rules.specs.Accepting.{is_answered}
use Rattle.lrat_checker.specs.Stored.{list_at, is_held, answers, IsIndexed, IsStored}
use Rattle.lrat_checker.proofs.{Placed.live_within, Noted.answered_by_list, Cleaned.{cleaned, all_held, stored_cleaned}, table.ClauseTable.all_answered.Goals.{After-drop_gone, After-deref-3}}
use Rattle.lrat_checker.proofs.table.ClauseTable.all_answered.Goals as goal

known : (c : After-drop_gone) → c.code-code.result < length (map (λ v. v.items) c.self.inside.lists.items)
known c = grind arith

new : (c : After-drop_gone) → map (λ v. v.items) c.drop_gone.new.lists.items ≡ cleaned c.self.inside.live.items (map (λ v. v.items) c.self.inside.lists.items) c.code-code.result
new c = c.drop_gone.ensures ∙ ap (λ bs. cleaned bs (map (λ v. v.items) c.self.inside.lists.items) c.code-code.result) c.deref.ensures.value

-- the list of the negated pivot, of which all clauses are held
list : (c : After-deref-3) → c.code-code.result < length (map (λ v. v.items) c.self.inside.lists.items) → map (λ v. v.items) c.drop_gone.new.lists.items ≡ cleaned c.self.inside.live.items (map (λ v. v.items) c.self.inside.lists.items) c.code-code.result
    → list_at (map (λ v. v.items) c.drop_gone.new.lists.items) c.code-code.result ≡ c.deref-3.result.now
list c w e =
    let k = c.code-code.result in
    let lists = map (λ v. v.items) c.self.inside.lists.items in
    let w' : k < length c.drop_gone.new.lists.items = omega (arith, w, ap length e, length-set lists k (filter (is_held c.self.inside.live.items) (list_at lists k)), length-map c.drop_gone.new.lists.items (λ v. v.items)) in
    at_map (λ v. v.items) c.drop_gone.new.lists.items k c.index.result.now [] w' c.index.ensures ∙ sym c.deref-3.ensures.value

pub are_answered-requires-clause-within : goal.are_answered-requires-clause-within
are_answered-requires-clause-within c =
    let i = c.self.inside in
    let more = map (λ v. v.items) c.drop_gone.new.lists.items in
    let at = goal.at.are_answered-requires-clause-within c in
    let w = known at.After-drop_gone in
    let e = new at.After-drop_gone in
    let held = all_held i.live.items (map (λ v. v.items) i.lists.items) more c.code-code.result w e in
    subst (All (λ k. k < length c.deref-2.result.now)) (list at.After-deref-3 w e) (λ j d u. let here = live_within i.live.items (get_or (list_at more c.code-code.result) j d) (held j d u) in omega (arith, here, c.self.invariant.lives, ap length c.deref-2.ensures.value))

pub invariant_of-self : goal.invariant_of-self
invariant_of-self c =
    let i = c.self.inside in
    let leads = map (λ v. v.items) i.leads.items in
    let at = goal.at.invariant_of-self c in
    subst (λ ls. IsStored i.vars i.ids.items i.live.items i.clauses ls leads) (sym (new at.After-drop_gone))
    (stored_cleaned i.vars i.ids.items i.live.items i.clauses (map (λ v. v.items) i.lists.items) leads c.code-code.result c.self.invariant (known at.After-drop_gone))

pub returns-clause-answer : goal.returns-clause-answer
returns-clause-answer c = λ groups n.
    let i = c.self.inside in
    let lists = map (λ v. v.items) i.lists.items in
    let more = map (λ v. v.items) c.drop_gone.new.lists.items in
    let at = goal.at.returns-clause-answer c in
    let w = known at.After-drop_gone in
    let e = new at.After-drop_gone in
    let code : c.code-code.result ≡ code_of (negation c.args.pivot) = c.code-code.ensures.code ∙ ap code_of c.negated.ensures in
    let clauses = i.clauses in
    let pivot = c.args.pivot in
    let falses = c.args.marks.now.falses in
    let indexed = subst (IsIndexed i.vars i.live.items clauses) (sym e) (stored_cleaned i.vars i.ids.items i.live.items clauses lists (map (λ v. v.items) i.leads.items) c.code-code.result c.self.invariant w).indexed in
    let all = answered_by_list pivot falses groups i.vars i.ids.items i.live.items clauses more indexed c.self.invariant.lives c.self.invariant.many (subst (λ k. All (λ p. is_held i.live.items p ≡ true) (list_at more k)) code (all_held i.live.items lists more c.code-code.result w e)) in
    c.are_answered.ensures groups n ∙ ap (λ ids. list_all (answers ids clauses pivot falses groups) c.deref-3.result.now) c.deref-2.ensures.value
    ∙ ap (list_all (answers i.ids.items clauses pivot falses groups)) (sym (list at.After-deref-3 w e) ∙ ap (list_at more) code) ∙ all ∙ ap (λ t. list_all (is_answered pivot falses groups) t.held) c.self.view_is
