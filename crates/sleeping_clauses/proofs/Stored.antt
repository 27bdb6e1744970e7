-- The tables of clauses that sleep, where one more falls asleep.
use Rattle.std.proofs.{Common.{◌≡◌, ◌≤◌, ℕ, ◌+◌, ◌*◌, Bool, true, List, [], ◌∷◌, ◌++◌, length, get_or, cond, arith, ◌≢◌, AllPairs, Contains, count_by}, lemmas.List.{length_push, Sums.sum_by_push}}
use Rattle.list_laws.proofs.Places.{by_place_push}
use Rattle.cnf_formula.specs.Literals.{LitValue, code_of}
use Rattle.sleeping_clauses.specs.{declared.sleepers.Led.Led, Sleeping.{list_at, IsLed, AreStored}}

-- ---- how many sleep

abbrev pub one : Bool → ℕ
one b = cond {A = ℕ} b 1 0

pub one_more : (bs : List Bool) → count_by (λ b. b) (bs ++ true ∷ []) ≡ count_by (λ b. b) bs + 1
one_more bs = sum_by_push one bs true

-- ---- the tables

-- lists that grew lead as before
pub led_grown : (clause : List LitValue) (leads leads' : List (List Led)) (place : ℕ) → ((code : ℕ) (x : Led) → Contains (list_at leads code) x → Contains (list_at leads' code) x) → IsLed clause leads place → IsLed clause leads' place
led_grown clause leads leads' place kept l = record { lit = l.lit; stands = l.stands; led = l.led; listed = kept (code_of l.lit) l.led l.listed; at = l.at; second = l.second; third = l.third }

pub stored_push : (vars : ℕ) (clauses : List (List LitValue)) (numbers : List ℕ) (asleep : List Bool) (count count' : ℕ) (leads leads' : List (List Led)) (marks marks' : List ℕ) (lits : List LitValue) (number : ℕ) → AreStored vars clauses numbers asleep count leads marks → count' ≡ count + 1 → 2 * vars + 2 ≤ length leads' → 2 * vars + 2 ≤ length marks'
    → ((code : ℕ) (x : Led) → Contains (list_at leads code) x → Contains (list_at leads' code) x) → AllPairs (λ a b. a ≢ b) lits → IsLed lits leads' (length clauses)
    → AreStored vars (clauses ++ lits ∷ []) (numbers ++ number ∷ []) (asleep ++ true ∷ []) count' leads' marks'
stored_push vars clauses numbers asleep count count' leads leads' marks marks' lits number s more long wide kept once led = record {
  numbers_len = omega (arith, length_push numbers number, length_push clauses lits, s.numbers_len);
  asleep_len = omega (arith, length_push asleep true, length_push clauses lits, s.asleep_len);
  counted = omega (arith, more, s.counted, one_more asleep);
  once = by_place_push (λ k c. AllPairs (λ a b. a ≢ b) c) clauses lits [] s.once once;
  leads_room = λ _. long;
  marks_room = λ _. wide;
  led = by_place_push (λ k c. IsLed c leads' k) clauses lits [] (λ k w. led_grown (get_or clauses k []) leads leads' k kept (s.led k w)) led;
}
