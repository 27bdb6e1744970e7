use Rattle.std.proofs.{Common.{◌≡◌, ◌≤◌, List, Some, length, get_or, refl, sym, ap, ◌∙◌, subst, inl, arith, Contains}, lemmas.List.{length-map, get_or_default, Elements.All-contains}}
use Rattle.cnf_formula.specs.{Literals.LitValue, Formulas.IsAbout}
use Rattle.trail_core.{specs.{Trails.lits_of, Watching.{no_row, row_at}, Search.{IsUnit, Implied.{none, more}}}, proofs.{Visits.{lits_at, open_by, pushed_satisfied}, propagate.settle.Goals.In-len1-up}}
use Rattle.trail_core.proofs.propagate.settle.Goals as goal

single : (xs : List LitValue) (l : LitValue) → length xs ≤ 1 → l ≡ get_or xs 0 l → (o : LitValue) → Contains xs o → o ≡ l
single xs l n e o c = grind (arith, get_or_default)

-- the literal of the clause
own : (c : In-len1-up) (l : LitValue) → l ≡ get_or c.clause.result.now 0 l → Contains (row_at c.args.store.now c.args.id).lits l
own c l is = rw (← c.clause.ensures.lits no_row) (0, c.in-len1-up.len_at_least, sym is)

about : (c : In-len1-up) (l : LitValue) → l ≡ get_or c.clause.result.now 0 l → IsAbout c.args.trail.now.vars l
about c l is = All-contains (IsAbout c.args.trail.now.vars) (row_at c.args.store.now c.args.id).lits l (c.requires.rows c.args.id c.requires.short.within).within (own c l is)

pub is_true-requires : goal.is_true-requires
is_true-requires c = (about (goal.at.is_true-requires c).In-len1-up c.lit-item.result c.lit-item.is).within

pub is_false-requires : goal.is_false-requires
is_false-requires c = (about (goal.at.is_false-requires c).In-len1-up c.lit-item.result c.lit-item.is).within

pub push-requires-clause-within : goal.push-requires-clause-within
push-requires-clause-within c = (about (goal.at.push-requires-clause-within c).In-len1-up c.lit-item.result c.lit-item.is).within

pub returns-else-is_false-clause-implied : goal.returns-else-is_false-clause-implied
returns-else-is_false-clause-implied c =
    let t = c.args.trail.now in
    let l = c.lit-item.result in
    let cl = c.clause.ensures.lits no_row in
    let n : length c.clause.result.now ≤ 1 = omega (arith, ap length cl, c.requires.short.short) in
    let one = single c.clause.result.now l n c.lit-item.is in
    let unit : IsUnit (lits_of t.steps) c.clause.result.now l = record {
      stands = (0, c.in-len1-up.len_at_least, sym c.lit-item.is);
      open_ = open_by _ _ _ _ c.is_true.ensures c.is_false.ensures c.if-is_true.false c.if-is_false.false;
      others = λ o h. inl (one o h);
    } in
    rw c.push.ensures (more t.steps t.steps (record { lit = l; reason = Some c.args.id }) (none t.steps) (record {
      id = c.args.id;
      reason = refl;
      within = omega (arith, c.requires.short.within, length-map c.args.store.now (λ r. r.lits));
      unit = subst (λ xs. IsUnit (lits_of t.steps) xs l) (cl ∙ lits_at c.args.store.now c.args.id) unit;
      was_due = inl refl;
    }))

pub returns-else-is_false-clause-settled : goal.returns-else-is_false-clause-settled
returns-else-is_false-clause-settled c = λ h. pushed_satisfied _ _ _ _ _ _ (own (goal.at.returns-else-is_false-clause-settled c).In-len1-up c.lit-item.result c.lit-item.is) c.push.ensures refl
