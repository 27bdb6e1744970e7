use Rattle.std.proofs.{Common.{◌≡◌, ℕ, ◌+◌, ◌<◌, true, List, [], ◌∷◌, ◌++◌, length, get_or, refl, sym, ap, ◌∙◌, subst, arith, All, Result, Ok, Err, OnOk}, lemmas.{List.{get_or_default, Elements.All-push}, Result.on_ok_weaker}}
use Rattle.cnf_formula.specs.{Literals.LitValue, Formulas.IsClause}
use Rattle.trail_core.specs.Meaning.{CoreValue}
use Rattle.sleeping_clauses.specs.{declared.awake.Awake.Awake, Naming.IsListed, Sleeping.SleepersValue}
use Rattle.sat_core.proofs.{Listed.{clause_is}, Divided.{dividing_awake, dividing_asleep}}
use Rattle.sat_core.proofs.resting.divide.Goals as goal

name_is : (clauses : List (List LitValue)) (awake : Awake) (place read : ℕ) → IsListed clauses awake → place < length clauses → read ≡ get_or awake.names.items (place + 1) read → read ≡ get_or awake.names.items (place + 1) 0
name_is clauses awake place read l w e = e ∙ get_or_default awake.names.items (place + 1) read 0 (omega (arith, w, l.names))

about_is : (core : CoreValue) (awake : Awake) (place read vars : ℕ) (clause : List LitValue) → IsListed core.clauses awake → place < length core.clauses → read ≡ get_or awake.ids.items place read → clause ≡ get_or core.clauses read [] → vars ≡ core.vars
    → ((k : ℕ) (d : List LitValue) → k < length core.clauses → IsClause core.vars (get_or core.clauses k d)) → IsClause vars clause
about_is core awake place read vars clause l w e is v about =
    subst (λ n. IsClause n clause) (sym v) (subst (IsClause core.vars) (sym (clause_is core.clauses awake place read clause l w e is)) (about place [] w))

-- what a result answers, from two things that it answers
ok_both : {T E A B C : Type 0} (r : Result T E) → OnOk r A → OnOk r B → (A → B → C) → OnOk r C
ok_both (Ok x) a b f = f a b
ok_both (Err e) a b f = tt

pub push-requires-clause-about : goal.push-requires-clause-about
push-requires-clause-about c = about_is c.args.core.now c.args.awake.now c.args.place c.index.result.now c.args.sleepers.now.vars c.clause-clause.result.now c.requires.listed c.requires.place c.index.ensures (c.clause-clause.ensures []) c.requires.same c.requires.about

pub returns-clause-within : goal.returns-clause-within
returns-clause-within c =
    let vars = c.args.core.now.vars in
    let about = about_is c.args.core.now c.args.awake.now c.args.place c.index.result.now vars c.clause-clause.result.now c.requires.listed c.requires.place c.index.ensures (c.clause-clause.ensures []) refl c.requires.about in
    subst (All (IsClause vars)) (sym c.in_ok-push.ensures.added) (All-push (IsClause vars) c.args.left.now c.clause-clause.result.now c.requires.within about)

pub returns-then-is_idle-clause-divided : goal.returns-then-is_idle-clause-divided
returns-then-is_idle-clause-divided c = on_ok_weaker c.push.result (λ e before d.
    let core = c.args.core.now in
    let awake = c.args.awake.now in
    let s = c.args.sleepers.now in
    let place = c.args.place in
    let clause = clause_is core.clauses awake place c.index.result.now c.clause-clause.result.now c.requires.listed c.requires.place c.index.ensures (c.clause-clause.ensures []) in
    let number = name_is core.clauses awake place c.index-number.result.now c.requires.listed c.requires.place c.index-number.ensures in
    let make : List LitValue → ℕ → SleepersValue = λ x n. record { vars = s.vars; clauses = s.clauses ++ x ∷ []; numbers = s.numbers ++ n ∷ []; asleep = s.asleep ++ true ∷ [] } in
    dividing_asleep core.clauses awake.names.items awake.formula before place c.args.left.now c.args.named.now s c.push.new.self d c.requires.place (c.is_idle.ensures.learned c.if-is_idle.true) c.push.ensures.numbers c.push.ensures.flags
    (e ∙ ap (λ x. make x c.index-number.result.now) clause ∙ ap (make (get_or core.clauses place [])) number)) c.push.ensures.added

pub returns-clause-divided : goal.returns-clause-divided
returns-clause-divided c = ok_both c.note.result c.note.ensures.ids c.note.ensures.names (λ ids names before d.
    let core = c.args.core.now in
    let awake = c.args.awake.now in
    let place = c.args.place in
    let left = c.args.left.now in
    let clause = clause_is core.clauses awake place c.index.result.now c.clause-clause.result.now c.requires.listed c.requires.place c.index.ensures (c.clause-clause.ensures []) in
    let number = name_is core.clauses awake place c.index-number.result.now c.requires.listed c.requires.place c.index-number.ensures in
    dividing_awake core.clauses awake.names.items awake.formula before place left c.push-2.new.self c.args.named.now c.note.new.self c.args.sleepers.now c.new-id.result d c.requires.place
    (c.in_ok-push.ensures.added ∙ ap (λ x. left ++ x ∷ []) clause) (c.new-id.ensures ∙ c.len.ensures) ids (names ∙ ap (λ n. c.args.named.now.names.items ++ n ∷ []) number) (c.requires.listed.once place c.requires.place))
