use Rattle.std.proofs.{Common.{◌≡◌, ◌<◌, [], ◌∷◌, ◌++◌, length, map, sym, ap, ◌∙◌, subst, arith, Contains}, lemmas.List.length-map}
use Rattle.cnf_formula.specs.{Literals.code_of, Formulas.IsClause}
use Rattle.lrat_checker.{specs.Stored.{IsStored, last_of, list_at, led_as}, proofs.{Placed.{held_push, last_push}, Led.lead_within}}
use Rattle.lrat_checker.proofs.{Noted.{indexed_push, led_push, stored_grown, stored_push}, table.ClauseTable.push.Goals.{After-note_literals, After-note}}
use Rattle.lrat_checker.proofs.table.ClauseTable.push.Goals as goal

long : (c : After-note_literals) → length (map (λ v. v.items) c.note_literals.new.lists.items) ≡ length (map (λ v. v.items) c.self.inside.lists.items)
long c = omega (arith, length-map c.note_literals.new.lists.items (λ v. v.items), length-map c.self.inside.lists.items (λ v. v.items), c.note_literals.ensures.long)

wide : (c : After-note) → length (map (λ v. v.items) c.note.new.lists.items) ≡ length (map (λ v. v.items) c.self.inside.leads.items)
wide c = omega (arith, length-map c.note.new.lists.items (λ v. v.items), length-map c.self.inside.leads.items (λ v. v.items), c.note.ensures.long)

-- the lists have places more
grown : (c : After-note) → length (map (λ v. v.items) c.note_literals.new.lists.items) ≡ length (map (λ v. v.items) c.self.inside.lists.items)
    → IsStored c.self.inside.vars c.self.inside.ids.items c.self.inside.live.items c.self.inside.clauses (map (λ v. v.items) c.note_literals.new.lists.items) (map (λ v. v.items) c.note.new.lists.items)
grown c l = stored_grown _ _ _ _ (map (λ v. v.items) c.self.inside.lists.items) _ (map (λ v. v.items) c.self.inside.leads.items) _ c.self.invariant l c.note_literals.ensures.kept (wide c) c.note.ensures.kept

pub note-requires : goal.note-requires
note-requires c =
    let i = c.self.inside in
    let lits = c.args.lits.now in
    let about : IsClause i.vars lits = subst (λ n. IsClause n lits) (sym (ap (λ t. t.vars) c.self.view_is)) c.requires.about in
    omega (arith, lead_within i.vars lits c.lead_of-lead.result about c.lead_of-lead.ensures, c.self.invariant.led.long, length-map i.leads.items (λ v. v.items))

pub invariant_of-self-in_err-note_literals : goal.invariant_of-self-in_err-note_literals
invariant_of-self-in_err-note_literals c = grind (arith, long (goal.at.invariant_of-self-in_err-note_literals c).After-note_literals)

pub invariant_of-self-in_err-note : goal.invariant_of-self-in_err-note
invariant_of-self-in_err-note c = grind (arith, grown, long)

pub invariant_of-self-in_err-push : goal.invariant_of-self-in_err-push
invariant_of-self-in_err-push c = grind (arith, grown, long)

pub invariant_of-self-2 : goal.invariant_of-self-2
invariant_of-self-2 c =
    let i = c.self.inside in
    let id = c.args.id in
    let lits = c.args.lits.now in
    let clauses = i.clauses in
    let ids : c.push_reserved.new.self.items ≡ i.ids.items ++ id ∷ [] = c.push_reserved.ensures.items ∙ ap (λ xs. xs ++ id ∷ []) c.in_ok-reserve.ensures.items in
    let live : c.push_reserved-2.new.self.items ≡ i.live.items ++ c.args.held ∷ [] = c.push_reserved-2.ensures.items ∙ ap (λ xs. xs ++ c.args.held ∷ []) c.in_ok-reserve-2.ensures.items in
    let more : c.push.new.self ≡ clauses ++ lits ∷ [] = c.in_ok-push.ensures.added in
    let above : last_of i.ids.items < id = omega (arith, ap (λ t. t.last) c.self.view_is, c.requires.above) in
    let about : IsClause i.vars lits = subst (λ n. IsClause n lits) (sym (ap (λ t. t.vars) c.self.view_is)) c.requires.about in
    let old = map (λ v. v.items) i.lists.items in
    let lists = map (λ v. v.items) c.note_literals.new.lists.items in
    let led = map (λ v. v.items) i.leads.items in
    let leads = map (λ v. v.items) c.note.new.lists.items in
    let l = long (goal.at.invariant_of-self-2 c).After-note_literals in
    let m = wide (goal.at.invariant_of-self-2 c).After-note in
    let place : c.len-place.result ≡ length clauses = omega (arith, c.len-place.ensures, ap length c.in_ok-reserve.ensures.items, c.self.invariant.many) in
    let indexed = indexed_push i.vars i.live.items clauses old lists lits c.args.held c.self.invariant.indexed (omega (arith, c.self.invariant.lives, c.self.invariant.many)) l c.note_literals.ensures.kept (λ l h. subst (Contains (list_at lists (code_of l))) place (c.in_ok-note_literals.ensures.noted l h)) in
    let is : record { place = c.len-place.result; signature = c.signature_of-signature.result } ≡ led_as (length clauses) lits = λ i. record { place = place i; signature = c.signature_of-signature.ensures i } in
    let leading = led_push i.vars clauses led leads lits c.lead_of-lead.result c.self.invariant.led m c.note.ensures.kept c.lead_of-lead.ensures (subst (Contains (list_at leads c.lead_of-lead.result)) is c.in_ok-note.ensures.noted) in
    let s = stored_push i.vars i.ids.items i.live.items clauses old lists led leads id lits c.args.held c.self.invariant above about indexed leading in
    rw (ids, live, more) s

pub returns-clause-added : goal.returns-clause-added
returns-clause-added c = grind (arith, held_push, last_push)
