use Rattle.std.proofs.Common.{length, refl, [], ◌∷◌, ◌++◌, sym, ap, ◌∙◌, subst}
use Rattle.sleeping_clauses.specs.Naming.{IsListed}
use Rattle.sat_core.proofs.Readiness.{listed_more, ready_same, ready_woken}
use Rattle.sat_core.proofs.waking.wake.Goals as goal

pub returns : goal.returns
returns c =
    let low = c.go_to_bottom.new.core in
    let s = c.args.sleepers.now in
    let clauses = c.go_to_bottom.ensures.clauses in
    let ok = c.in_ok-id.ensures.ok in
    let listed : IsListed low.clauses c.args.awake.now = subst (λ xs. IsListed xs c.args.awake.now) (sym clauses) c.requires.listed in
    record {
      decider = c.go_to_bottom.ensures.decider;
      vars = ap (λ x. x.vars) ok.1 ∙ c.go_to_bottom.ensures.vars;
      same = ap (λ x. x.vars) c.wake.ensures.woken;
      listed = listed_more low.clauses _ _ c.args.awake.now _ _ _ listed (ap (λ x. x.clauses) ok.1) ok.0 c.in_ok-note.ensures.ids c.in_ok-note.ensures.names c.clause.ensures.once;
      ready = λ base lines r.
          let mid = ready_same base lines c.args.core.now low c.args.awake.now c.args.awake.now s r c.go_to_bottom.ensures.vars clauses refl refl refl in
          ready_woken base lines low c.add_clause.new.self c.args.awake.now c.note.new.self s c.wake.new.self c.args.place mid listed c.requires.within (ap (λ x. x.vars) ok.1) (ap (λ x. x.clauses) ok.1 ∙ ap (λ x. low.clauses ++ x ∷ []) c.clause.ensures.value) (c.in_ok-note.ensures.names ∙ ap (λ n. c.args.awake.now.names.items ++ n ∷ []) c.number.ensures) c.note.ensures.formula c.note.ensures.held c.wake.ensures.woken;
      len = ap (λ x. length x.clauses) c.wake.ensures.woken;
      woken = ap (λ x. x.asleep) c.wake.ensures.woken;
      fewer = c.wake.ensures.fewer;
    }
