-- Propagation by tests is that of the verdicts without their faults, so it is as the relations say.
use Rattle.std.proofs.{lemmas.Bool.{or_cases}, Common.{arith, ◌≡◌, ℕ, ◌+◌, true, List, [], ◌∷◌, Option, Some, None, Result, Ok, Err, refl, ap, ◌∙◌, inl, inr, ⊎_elim, if◌then◌else◌, option_map}}
use Rattle.std.specs.List.{list_all}
use Rattle.cnf_formula.specs.Literals.{LitValue, negation, same_literal}
use Rattle.proof_rules.specs.{declared.verdict.LineCode.{LineCode}, Held.{Entry, clause_at, open_literals, has_none}, Judging.{given_by, given_by_clause, after_conflict, led_to}}
use Rattle.proof_rules.{specs.{Testing.{propagated, is_conflict, closes, closes_one}, Accepting.{Group, without_negated, is_made_true, LeadsTo, Conflicts, Closes, Answers}}, proofs.Hints.{Led, conflicts, leads_to_conflict, leads, led_by}}

abbrev Propagated : Type 0
Propagated = Option (Option (List LitValue))

abbrev plain : Led → Propagated
plain (Err fault) = None
plain (Ok end) = Some end

-- ---- one hint, by the literals that are left of its clause

abbrev tested : List Entry → List LitValue → List ℕ → Option (List LitValue) → Propagated
tested held falses ids left = elim left [
  | None ↦ None
  | Some [] ↦ if has_none ids then Some None else None
  | Some (l ∷ ls) ↦ if list_all (same_literal l) ls then propagated held (negation l ∷ falses) ids else None
]

abbrev judged : List Entry → List LitValue → ℕ → List ℕ → Result (Option LitValue) LineCode → Led
judged held falses place ids given = elim given [
  | Err code ↦ Err (code, place)
  | Ok None ↦ after_conflict (place + 1) ids
  | Ok (Some l) ↦ led_to held (negation l ∷ falses) (place + 1) ids
]

at_end : (place : ℕ) (ids : List ℕ) → (if has_none ids then Some None else None) ≡ plain (after_conflict place ids)
at_end place ids = grind arith

module _ (held : List Entry) (falses : List LitValue) (place : ℕ) (ids : List ℕ) (more : (l : LitValue) → propagated held (negation l ∷ falses) ids ≡ plain (led_to held (negation l ∷ falses) (place + 1) ids)) where
  by_left : (left : List LitValue) → tested held falses ids (Some left) ≡ plain (judged held falses place ids (given_by left))
  by_left left = grind (arith, at_end (place + 1) ids, more)

  by_clause : (found : Option (List LitValue)) → tested held falses ids (option_map (open_literals falses) found) ≡ plain (judged held falses place ids (given_by_clause falses found))
  by_clause found = grind (arith, by_left)

propagated_plain : (held : List Entry) (falses : List LitValue) (place : ℕ) (ids : List ℕ) → propagated held falses ids ≡ plain (led_to held falses place ids)
propagated_plain held falses place [] = refl
propagated_plain held falses place (id ∷ ids) = by_clause held falses place ids (λ l. propagated_plain held (negation l ∷ falses) (place + 1) ids) (clause_at held id)

-- ---- all hints

pub conflict_by : (held : List Entry) (falses : List LitValue) (ids : List ℕ) → is_conflict (propagated held falses ids) ≡ true → Conflicts held falses ids
conflict_by held falses ids h = conflicts held falses 0 ids (grind (arith, propagated_plain held falses 0 ids))

pub by_conflict : (held : List Entry) (falses : List LitValue) (ids : List ℕ) → Conflicts held falses ids → is_conflict (propagated held falses ids) ≡ true
by_conflict held falses ids c = ap is_conflict (propagated_plain held falses 0 ids) ∙ ap (λ (r : Led). is_conflict (plain r)) (leads_to_conflict held falses 0 ids c)

pub leads_by : (held : List Entry) (falses : List LitValue) (ids : List ℕ) (last : List LitValue) → propagated held falses ids ≡ Some (Some last) → LeadsTo last held falses ids
leads_by held falses ids last h = leads held falses 0 ids last (grind (arith, propagated_plain held falses 0 ids))

pub by_leading : (held : List Entry) (falses : List LitValue) (ids : List ℕ) (last : List LitValue) → LeadsTo last held falses ids → propagated held falses ids ≡ Some (Some last)
by_leading held falses ids last h = propagated_plain held falses 0 ids ∙ ap plain (led_by held falses 0 ids last h)

-- ---- groups

pub closes_by : (held : List Entry) (ids : List ℕ) (falses ls : List LitValue) → closes held ids falses ls ≡ true → Closes held ids falses ls
closes_by held ids falses [] h = conflict_by held falses ids h
closes_by held ids falses (l ∷ ls) h = ⊎_elim (λ e. inl e) (λ e. inr (closes_by held ids (l ∷ falses) ls e)) (or_cases (is_made_true falses l) (closes held ids (l ∷ falses) ls) h)

pub by_closing : (held : List Entry) (ids : List ℕ) (falses ls : List LitValue) → Closes held ids falses ls → closes held ids falses ls ≡ true
by_closing held ids falses [] c = by_conflict held falses ids c
by_closing held ids falses (l ∷ ls) c = grind (arith, by_closing held ids (l ∷ falses) ls)

module _ (held : List Entry) (pivot : LitValue) (start : List LitValue) (group : Group) where
  pub answers_by : closes_one held pivot start group ≡ true → Answers held pivot start group
  answers_by h = grind (arith, closes_by)

  pub by_answering : Answers held pivot start group → closes_one held pivot start group ≡ true
  by_answering a = grind (arith, by_closing held group.hints start (without_negated pivot a.clause) a.closes)
