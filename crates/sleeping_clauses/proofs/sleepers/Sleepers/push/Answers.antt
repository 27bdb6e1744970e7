use Rattle.std.proofs.{Common.{◌≡◌, ◌≤◌, ◌+◌, ◌*◌, true, refl, [], ◌∷◌, ◌++◌, length, map, ap, ◌∙◌, subst, arith, Contains}, lemmas.List.length-map}
use Rattle.sleeping_clauses.{specs.{declared.sleepers.Led.Led, Sleeping.{list_at, IsLed}}, proofs.Stored.stored_push}
use Rattle.sleeping_clauses.proofs.sleepers.Sleepers.push.Goals as goal

pub invariant_of-self-2 : goal.invariant_of-self-2
invariant_of-self-2 c =
    let i = c.self.inside in
    let lits = c.args.lits.now in
    let number = c.args.number in
    let vars = i.clauses.vars in
    let clauses = i.clauses.clauses in
    let led = map (λ v. v.items) i.leads.items in
    let leads = map (λ v. v.items) c.lead.new.leads.items in
    let numbers : c.push_reserved.new.self.items ≡ i.numbers.items ++ number ∷ [] = c.push_reserved.ensures.items ∙ ap (λ xs. xs ++ number ∷ []) c.in_ok-reserve.ensures.items in
    let flags : c.push_reserved-2.new.self.items ≡ i.asleep.items ++ true ∷ [] = c.push_reserved-2.ensures.items ∙ ap (λ xs. xs ++ true ∷ []) c.in_ok-reserve-2.ensures.items in
    let long : 2 * vars + 2 ≤ length leads = omega (arith, length-map c.lead.new.leads.items (λ v. v.items), c.in_ok-lead.ensures.room) in
    let wide : 2 * vars + 2 ≤ length c.resize.new.self.items = omega (arith, c.in_ok-resize.ensures.len) in
    let place : c.len-place.result ≡ length clauses = omega (arith, c.len-place.ensures, ap length c.in_ok-reserve.ensures.items, c.self.invariant.numbers_len) in
    let x : Led = record { place = c.len-place.result; second = c.rarest-second.result; third = c.rarest-third.result } in
    let is : IsLed lits leads (length clauses) = record {
      lit = c.rarest-first.result;
      stands = c.rarest-first.ensures;
      led = x;
      listed = subst (λ n. Contains (list_at leads n) x) c.code.ensures.code c.in_ok-lead.ensures.led;
      at = place;
      second = c.rarest-second.ensures;
      third = c.rarest-third.ensures;
    } in
    let s = stored_push vars clauses i.numbers.items i.asleep.items i.count (i.count + 1) led leads i.marks.items c.resize.new.self.items lits number c.self.invariant refl long wide c.lead.ensures.kept c.requires.once is in
    rw (ap (λ f. f.vars) c.in_ok-add.ensures.added, ap (λ f. f.clauses) c.in_ok-add.ensures.added, numbers, flags) s
