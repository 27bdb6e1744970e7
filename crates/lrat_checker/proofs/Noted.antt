-- Places in the lists of literals.
use Rattle.std.proofs.lemmas.{Grind.common_steps, Bool.cases_eq, List.{Folds.list_any-append, Sums.AllPass-from_list_all}}
use Rattle.std.{proofs.{Common.{◌≡◌, ℕ, ◌+◌, ◌<◌, Bool, true, false, List, [], ◌∷◌, ◌++◌, length, take, get_or, set, refl, ◌∙◌, arith, All, Contains}, lemmas.List.{get_or-set_same, get_or-set_other, take_more}}, specs.List.list_all}
use Rattle.list_laws.proofs.Places.{by_place_push}
use Rattle.cnf_formula.{specs.{Literals.{LitValue, same_literal, has_literal, code_of, negation}, Formulas.IsClause}, proofs.Clauses.same_is}
use Rattle.lrat_checker.specs.{Stored.{list_at, is_held, answers, IsIndexed, led_as, IsLed, IsStored, held_of, last_of}, declared.leads.LedClause.LedClause, inner.Leads.IsLead}
use Rattle.lrat_checker.proofs.Placed.{all_by_place, not_all, rises_push, live_within, some_fails}
use Rattle.proof_rules.specs.Accepting.{Group, has_negated, is_answered}

pub grown : {A : Type 0} (ls : List (List A)) (k : ℕ) (new : List A) → k < length ls → ((x : A) → Contains (list_at ls k) x → Contains new x) → (code : ℕ) (x : A) → Contains (list_at ls code) x → Contains (list_at (set ls k new) code) x
grown ls k new w more code x h = grind (arith, more x, get_or-set_same, get_or-set_other, cases_eq code k)

-- ---- one literal more

pub one_more : (P : LitValue → Type 0) (lits : List LitValue) (j : ℕ) (lit : LitValue) → ((d : LitValue) → get_or lits j d ≡ lit) → j < length lits → P lit → ((x : LitValue) → has_literal (take j lits) x ≡ true → P x)
    → (x : LitValue) → has_literal (take (j + 1) lits) x ≡ true → P x
one_more P lits j lit at w new old x h = grind (arith, old x, same_is x lit, take_more lits j lit w, at lit, list_any-append (same_literal x) (take j lits) (lit ∷ []))

-- ---- whether all that is held is answered

module _ (pivot : LitValue) (start : List LitValue) (groups : List Group) where
  abbrev test : ℕ × List LitValue → Bool
  test = is_answered pivot start groups

  lacks : (id : ℕ) (clause : List LitValue) → has_negated pivot clause ≡ false → test (id, clause) ≡ true
  lacks id clause f = rw f refl

  -- it is enough to look at the list of the negated pivot, where all that stands in it is held
  pub answered_by_list : (vars : ℕ) (ids : List ℕ) (live : List Bool) (clauses : List (List LitValue)) (lists : List (List ℕ)) → IsIndexed vars live clauses lists → length live ≡ length ids → length clauses ≡ length ids
      → let list = list_at lists (code_of (negation pivot)) in All (λ k. is_held live k ≡ true) list → list_all (answers ids clauses pivot start groups) list ≡ list_all test (held_of ids live clauses)
  answered_by_list vars ids live clauses lists i l m held =
      grind (arith, all_by_place test ids live clauses, AllPass-from_list_all, some_fails, not_all test ids live clauses, live_within live)

-- ---- places more in the lists

pub stored_grown : (vars : ℕ) (ids : List ℕ) (live : List Bool) (clauses : List (List LitValue)) (lists lists' : List (List ℕ)) (leads leads' : List (List LedClause)) → IsStored vars ids live clauses lists leads
    → length lists' ≡ length lists → ((code k : ℕ) → Contains (list_at lists code) k → Contains (list_at lists' code) k) → length leads' ≡ length leads → ((code : ℕ) (x : LedClause) → Contains (list_at leads code) x → Contains (list_at leads' code) x)
    → IsStored vars ids live clauses lists' leads'
stored_grown vars ids live clauses lists lists' leads leads' s long kept wide held =
    let indexed : IsIndexed vars live clauses lists' = record { long = long ∙ s.indexed.long; each = λ k l a h. kept (code_of l) k (s.indexed.each k l a h) } in
    let led : IsLed vars clauses leads' = record {
      long = wide ∙ s.led.long;
      each = λ k w. let (code, lead, at) = s.led.each k w in (code, lead, held code (led_as k (get_or clauses k [])) at);
    } in
    assumption (s, indexed, led)

-- ---- one clause more

pub indexed_push : (vars : ℕ) (live : List Bool) (clauses : List (List LitValue)) (lists lists' : List (List ℕ)) (lits : List LitValue) (b : Bool) → IsIndexed vars live clauses lists → length live ≡ length clauses → length lists' ≡ length lists
    → ((code k : ℕ) → Contains (list_at lists code) k → Contains (list_at lists' code) k) → ((l : LitValue) → has_literal lits l ≡ true → Contains (list_at lists' (code_of l)) (length clauses))
    → IsIndexed vars (live ++ b ∷ []) (clauses ++ lits ∷ []) lists'
indexed_push vars live clauses lists lists' lits b i l long kept noted =
    grind (arith, common_steps)

pub led_push : (vars : ℕ) (clauses : List (List LitValue)) (leads leads' : List (List LedClause)) (lits : List LitValue) (code : ℕ) → IsLed vars clauses leads → length leads' ≡ length leads
    → ((code : ℕ) (x : LedClause) → Contains (list_at leads code) x → Contains (list_at leads' code) x) → IsLead lits code → Contains (list_at leads' code) (led_as (length clauses) lits)
    → IsLed vars (clauses ++ lits ∷ []) leads'
led_push vars clauses leads leads' lits code i long kept lead noted = record {
  long = long ∙ i.long;
  each = by_place_push (λ k c. (code : ℕ) × IsLead c code × Contains (list_at leads' code) (led_as k c)) clauses lits [] (λ k u. let (old, is, at) = i.each k u in (old, is, kept old (led_as k (get_or clauses k [])) at)) (code, lead, noted);
}

pub stored_push : (vars : ℕ) (ids : List ℕ) (live : List Bool) (clauses : List (List LitValue)) (lists lists' : List (List ℕ)) (leads leads' : List (List LedClause)) (id : ℕ) (lits : List LitValue) (held : Bool) → IsStored vars ids live clauses lists leads → last_of ids < id → IsClause vars lits
    → IsIndexed vars (live ++ held ∷ []) (clauses ++ lits ∷ []) lists' → IsLed vars (clauses ++ lits ∷ []) leads'
    → IsStored vars (ids ++ id ∷ []) (live ++ held ∷ []) (clauses ++ lits ∷ []) lists' leads'
stored_push vars ids live clauses lists lists' leads leads' id lits held s above about indexed led =
    grind (arith, common_steps, rises_push ids id above s.rises)
