use Rattle.std.proofs.{Common.{◌≡◌, ◌<◌, List, [], ◌∷◌, ◌++◌, length, get_or, sym, ap, ◌∙◌, subst, arith, ◌≢◌, All, AllPairs}, lemmas.List.{take_all, Elements.{All-push, All-contains}}}
use Rattle.cnf_formula.specs.{Literals.LitValue, Formulas.{IsAbout, IsClause}}
use Rattle.sat_core.{specs.inner.{Holding.IsSame, Loading.IsLoaded}, proofs.Loaded.{codes_within, kept_about, loaded_more}}
use Rattle.sat_core.proofs.loading.once_in_each.Goals as goal

pub loop-place-preserved : goal.loop-place-preserved
loop-place-preserved c =
    let i = c.loop-place.invariant in
    let e = c.in_ok-once_each.ensures in
    let own = c.args.own in
    let clauses = c.args.clauses.now in
    let n = c.loop-place.place in
    let w : n < length clauses = omega (arith, c.loop-place-test.true, c.loop-place.auto.place-end, c.len-place-end.ensures) in
    let clause = get_or clauses n [] in
    let once = c.loop-place.once in
    let kept : List LitValue = c.once_each.new.kept.items in
    let is : c.push.new.self ≡ once ++ kept ∷ [] = c.in_ok-push.ensures.added ∙ ap (λ xs. once ++ xs ∷ []) c.deref.ensures.value in
    let same : IsSame clause kept = subst (λ xs. IsSame xs kept) c.clause.ensures e.same in
    let about : IsClause own kept = kept_about own clause kept (λ l lit h. All-contains (IsAbout own) clause l (c.requires n [] w) h) same e.lits in
    record {
      len = c.once_each.ensures.len ∙ i.len;
      below = λ k. let b = c.once_each.ensures.marked k in omega (arith, b);
      loaded = loaded_more clauses n once c.push.new.self kept i.loaded w same is;
      within = subst (All (IsClause own)) (sym is) (All-push (IsClause own) once kept i.within about);
      once = subst (All (AllPairs (λ a b. a ≢ b))) (sym is) (All-push (AllPairs (λ a b. a ≢ b)) once kept i.once e.once);
    }

pub once_each-requires-clause-room : goal.once_each-requires-clause-room
once_each-requires-clause-room c = codes_within c.args.own c.args.clauses.now c.loop-place.place c.clause.result.now (length c.loop-place.seen.items) c.requires (omega (arith, c.loop-place-test.true, c.loop-place.auto.place-end, c.len-place-end.ensures)) c.clause.ensures c.loop-place.invariant.len

pub returns-clause-loaded : goal.returns-clause-loaded
returns-clause-loaded c = subst (λ cs. IsLoaded cs c.loop-place.once) (take_all c.loop-place.place c.args.clauses.now (omega (arith, c.loop-place-test.false, c.loop-place.auto.place-end, c.len-place-end.ensures))) c.loop-place.invariant.loaded
