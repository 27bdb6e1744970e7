-- From a closed trail no hints end in a conflict.
use Rattle.std.proofs.{Common.{◌≡◌, ℕ, true, List, [], ◌∷◌, length, sym, ap, ◌∙◌, subst, inl, inr, ⊎_elim, arith, ◌⊎◌, ◌==◌, Contains, Some}, lemmas.{Bool.cases_Bool, List.Elements.All-contains}}
use Rattle.list_laws.proofs.Members.{Contains-cons}
use Rattle.cnf_formula.specs.{Literals.{LitValue, negation}, Lines.ProofLineValue}
use Rattle.proof_rules.{specs.{declared.verdict.LineVerdict.TheVariants.Accepted as AcceptedVerdict, Held.{Entry, CheckerValue, clause_at}, Judging.verdict_of, Accepting.{IsFalse as IsTaken, Conflicts, leading}}, proofs.Verdicts.implied_by}
use Rattle.trail_core.{specs.{Assigned.{IsFalse, IsOpen, IsConsistent}, Search.{IsFalsified, IsUnit}, Meaning.IsClosed}, proofs.Keeping.negated_twice}
use Rattle.sleeping_clauses.specs.Sleeping.{SleepersValue, IsAsleep}
use Rattle.sat_core.{specs.inner.Holding.{AreAmongOr, IsSame}, proofs.Members.{stands_by, stands_or_not}}
use Rattle.conflict_analysis.proofs.Members.{here, cons_cases}

-- a clause that is held under a number is one of the held
pub is_entry : (held : List Entry) (id : ℕ) (clause : List LitValue) → clause_at held id ≡ Some clause → (entry : Entry) × Contains held entry × (entry.1 ≡ clause)
is_entry [] id clause h = absurd (cc)
is_entry (entry ∷ held) id clause h = ⊎_elim
    (λ e. let here' : Some (entry.1) ≡ Some clause = rw e at h in (entry, here entry held, cc))
    (λ e. let r = is_entry held id clause (rw e at h) in (r.0, Contains-cons entry held r.0 r.1, r.2))
    (cases_Bool (entry.0 == id))

-- a clause that lets nothing follow from what is true: it is not falsified, and no unit clause
abbrev pub Rests : List LitValue → List LitValue → Type 0
Rests trues clause = IsClosed trues (clause ∷ [])

-- each clause that is held has the literals of one that rests
abbrev pub AllRest : List Entry → List LitValue → Type 0
AllRest held trues = (entry : Entry) → Contains held entry → (clause : List LitValue) × Rests trues clause × IsSame entry.1 clause

pub no_conflict : (held : List Entry) (trues : List LitValue) → AllRest held trues → (hints : List ℕ) (falses : List LitValue) → ((o : LitValue) → Contains falses o → IsFalse trues o) → Conflicts held falses hints → ⊥
no_conflict held trues a [] falses fal c = c
no_conflict held trues a (hint ∷ []) falses fal c =
    let e = is_entry held hint c.clause c.names in
    let k = a e.0 e.1 in
    k.1.not_falsified k.0 (here k.0 []) (λ o h. fal o (stands_by falses o (All-contains (IsTaken falses) c.clause o c.each (subst (λ xs. Contains xs o) e.2 (k.2.from o h)))))
no_conflict held trues a (hint ∷ next ∷ hints) falses fal c =
    let l = c.0 in
    let t = c.1 in
    let e = is_entry held hint t.clause t.names in
    let k = a e.0 e.1 in
    let others : (o : LitValue) → Contains k.0 o → (o ≡ l) ⊎ IsFalse trues o =
    λ o h. ⊎_elim (λ f. inr (fal o (stands_by falses o f))) (λ i. inl i) (All-contains (λ other. IsTaken falses other ⊎ (other ≡ l)) t.clause o t.others (subst (λ xs. Contains xs o) e.2 (k.2.from o h))) in
    let stands : Contains k.0 l = k.2.into l (subst (λ xs. Contains xs l) (sym e.2) (stands_by t.clause l t.stands)) in
    ⊎_elim
    (λ s. no_conflict held trues a (next ∷ hints) (negation l ∷ falses)
    (λ o h. ⊎_elim (λ i. subst (λ x. Contains trues x) (sym (negated_twice l) ∙ ap negation i) s) (λ d. fal o d) (cons_cases (negation l) falses o h))
    c.2)
    (λ n. ⊎_elim
    (λ f. k.1.not_falsified k.0 (here k.0 []) (λ o h. ⊎_elim (λ i. subst (λ x. IsFalse trues x) (sym i) f) (λ g. g) (others o h)))
    (λ u. k.1.not_unit k.0 l (here k.0 []) (record { stands = stands; open_ = record { not_true = n; not_false = u }; others = others }))
    (stands_or_not trues (negation l)))
    (stands_or_not trues l)

-- so no line without a literal is accepted
pub no_closing : (c : CheckerValue) (trues : List LitValue) → AllRest c.held trues → (line : ProofLineValue) → line.lits ≡ [] → verdict_of c line ≡ AcceptedVerdict true → ⊥
no_closing c trues a line e v =
    no_conflict c.held trues a (leading line.hints) line.lits
    (λ o h. absurd (omega (arith, h.1, ap length e)))
    (implied_by c line v).conflict

is_that : (clause other : List LitValue) → Contains (clause ∷ []) other → clause ≡ other
is_that clause other h = ⊎_elim (λ e. e) (λ n. absurd (omega (arith, n.1))) (cons_cases clause [] other h)

rests_so : (trues clause : List LitValue) → (IsFalsified trues clause → ⊥) → ((l : LitValue) → IsUnit trues clause l → ⊥) → Rests trues clause
rests_so trues clause f u = grind (arith, is_that)

-- each clause of a closed trail rests
pub rests_by : (trues : List LitValue) (clauses : List (List LitValue)) (clause : List LitValue) → IsClosed trues clauses → Contains clauses clause → Rests trues clause
rests_by trues clauses clause closed i = rests_so trues clause (closed.not_falsified clause i) (λ l. closed.not_unit clause l i)

-- and each that has a true literal, or two that are open
pub true_rests : (trues clause : List LitValue) (l : LitValue) → IsConsistent trues → Contains clause l → Contains trues l → Rests trues clause
true_rests trues clause l once i t = rests_so trues clause (λ f. once l t (f l i)) (λ o u. ⊎_elim (λ e. u.open_.not_true (subst (Contains trues) e t)) (λ n. once l t n) (u.others l i))

pub open_rests : (trues clause : List LitValue) (a b : LitValue) → (a ≡ b → ⊥) → Contains clause a → IsOpen trues a → Contains clause b → IsOpen trues b → Rests trues clause
open_rests trues clause a b differ i p j q =
    let is : (o x : LitValue) → IsOpen trues x → (x ≡ o) ⊎ IsFalse trues x → x ≡ o = λ o x n. ⊎_elim (λ e. e) (λ f. absurd (n.not_false f)) in
    rests_so trues clause (λ f. p.not_false (f a i)) (λ o u. differ (is o a p (u.others a i) ∙ sym (is o b q (u.others b j))))

-- those of the core rest where its trail is closed, and those that sleep as they are said to
pub all_rest : (held : List Entry) (clauses : List (List LitValue)) (s : SleepersValue) (trues : List LitValue) → AreAmongOr held clauses s → IsClosed trues clauses → ((clause : List LitValue) → IsAsleep s clause → Rests trues clause) → AllRest held trues
all_rest held clauses s trues a closed asleep = λ entry i. let o = a entry i in (o.0, ⊎_elim (λ w. rests_by trues clauses o.0 closed w) (λ w. asleep o.0 w) o.1, o.2)
