-- One hint after another.
use Rattle.std.proofs.Common.{arith, ◌≡◌, ℕ, ◌+◌, ◌<◌, true, false, List, [], ◌∷◌, ◌++◌, length, drop, get_or, Option, Some, None, Result, Ok, Err, sym, ap, ◌∙◌, subst, ⊎_elim, append_assoc, if◌then◌else◌, ℤ, pos, All, w64, SFits, of_z, to_z}
use Rattle.std.{proofs.lemmas.{Grind.common_steps, Bool.{false≢true, or_cases}, List.Elements.{All-head, All-tail}}, specs.List.list_all}
use lib.{IntN.nat_abs, Signed.lt_z}
use Rattle.cnf_formula.{specs.{Literals.{LitValue, same_literal, has_literal, negation}, Formulas.IsAbout}, proofs.Clauses.same_is}
use Rattle.proof_rules.{specs.{declared.verdict.LineCode.{LineCode, TheVariants.HintNotUnit}, Held.{Entry, clause_at, open_literals}, Judging.{Fault, after_conflict, given_by, given_by_clause, led_to}, Accepting.leading}, proofs.Taking.first_open}
use Rattle.lrat_checker.specs.inner.Marking.{Extends}

-- ---- the literals of a clause

-- what is given where this was open so far, and these are open behind it
abbrev pub goes_on : Option LitValue → List LitValue → Result (Option LitValue) LineCode
goes_on None ls = given_by ls
goes_on (Some l) ls = if list_all (same_literal l) ls then Ok (Some l) else Err HintNotUnit

-- ---- hints

-- where a hint leads that gives this, with these behind it
abbrev pub led_by : List Entry → List LitValue → ℕ → List ℕ → Result (Option LitValue) LineCode → Result (Option (List LitValue)) Fault
led_by held falses place ids given = elim given [
  | Err code ↦ Err (code, place)
  | Ok None ↦ after_conflict (place + 1) ids
  | Ok (Some l) ↦ led_to held (negation l ∷ falses) (place + 1) ids
]

pub hint_led : (held : List Entry) (falses : List LitValue) (hints : List ℤ) (place id : ℕ) (o : Option (List LitValue)) (given : Result (Option LitValue) LineCode) → drop place hints ≡ pos id ∷ drop (place + 1) hints → clause_at held id ≡ o → given_by_clause falses o ≡ given
    → led_to held falses place (leading (drop place hints)) ≡ led_by held falses place (leading (drop (place + 1) hints)) given
hint_led held falses hints place id o given h e g = ap (λ hs. led_to held falses place (leading hs)) h ∙ ap (λ p. led_by held falses place (leading (drop (place + 1) hints)) (given_by_clause falses p)) e ∙ ap (led_by held falses place (leading (drop (place + 1) hints))) g

-- ---- more literals

pub extends_more : (base falses : List LitValue) (l : LitValue) → Extends base falses → Extends base (l ∷ falses)
extends_more base falses l e = record { more = l ∷ e.more; is = ap (λ fs. l ∷ fs) e.is }

pub extends_both : (a b c : List LitValue) → Extends a b → Extends b c → Extends a c
extends_both a b c e f = record { more = f.more ++ e.more; is = f.is ∙ ap (λ bs. f.more ++ bs) e.is ∙ sym (append_assoc f.more e.more a) }

-- ---- what is given is about the clause's variables

stands_about : (vars : ℕ) (clause : List LitValue) (l : LitValue) → All (IsAbout vars) clause → has_literal clause l ≡ true → IsAbout vars l
stands_about vars [] l a h = absurd (false≢true h)
stands_about vars (x ∷ clause) l a h =
    ⊎_elim (λ s. subst (IsAbout vars) (sym (same_is l x s)) (All-head (IsAbout vars) x clause a)) (λ r. stands_about vars clause l (All-tail (IsAbout vars) x clause a) r)
    (or_cases (same_literal l x) (has_literal clause l) h)

pub given_about : (vars : ℕ) (falses clause : List LitValue) (l : LitValue) → All (IsAbout vars) clause → given_by (open_literals falses clause) ≡ Ok (Some l) → IsAbout vars l
given_about vars falses clause l a h = grind (arith, stands_about vars clause l a, first_open falses clause l)

-- ---- a hint that is read

pub hint_here : (hints : List ℤ) (place id : ℕ) → place < length hints → SFits w64 (get_or hints place (pos 0)) → lt_z (to_z w64 (of_z w64 (get_or hints place (pos 0)))) (pos 0) ≡ false → id ≡ nat_abs (to_z w64 (of_z w64 (get_or hints place (pos 0)))) → drop place hints ≡ pos id ∷ drop (place + 1) hints
hint_here hints place id w f h e = grind (arith, common_steps)

pub none_here : (hints : List ℤ) (place : ℕ) → place < length hints → SFits w64 (get_or hints place (pos 0)) → lt_z (to_z w64 (of_z w64 (get_or hints place (pos 0)))) (pos 0) ≡ true → leading (drop place hints) ≡ []
none_here hints place w f h = grind (arith, common_steps)
