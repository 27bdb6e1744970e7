-- Clauses that sleep: where one is woken, and where one more falls asleep.
use Rattle.std.proofs.{Common.{◌≡◌, ℕ, true, false, List, [], ◌∷◌, ◌++◌, length, get_or, set, sym, ⊎_elim, arith, ◌⊎◌}, lemmas.{Bool.cases_eq, List.{get_or_append_left, get_or_push, length_push, get_or-set_other}}}
use Rattle.cnf_formula.specs.Literals.{LitValue}
use Rattle.proof_rules.specs.Held.{Entry}
use Rattle.sat_core.{specs.inner.Holding.{AreAsleep, IsHeldAs}, proofs.Members.both_more}
use Rattle.sleeping_clauses.specs.Sleeping.{SleepersValue, IsAsleep}

-- ---- one is woken

pub woken_stays : (s s' : SleepersValue) (place : ℕ) → s'.clauses ≡ s.clauses → s'.asleep ≡ set s.asleep place false → (clause : List LitValue) → IsAsleep s clause → IsAsleep s' clause ⊎ (get_or s.clauses place [] ≡ clause)
woken_stays s s' place cs bs clause a = grind (arith, ⊎_elim, get_or-set_other, cases_eq)

-- ---- one more falls asleep

pub pushed_stays : (s s' : SleepersValue) (lits : List LitValue) → length s.asleep ≡ length s.clauses → s'.clauses ≡ s.clauses ++ lits ∷ [] → s'.asleep ≡ s.asleep ++ true ∷ [] → (clause : List LitValue) → IsAsleep s clause → IsAsleep s' clause
pushed_stays s s' lits same cs bs clause a = grind (arith, length_push, get_or_append_left)

pub pushed_sleeps : (s s' : SleepersValue) (lits : List LitValue) → length s.asleep ≡ length s.clauses → s'.clauses ≡ s.clauses ++ lits ∷ [] → s'.asleep ≡ s.asleep ++ true ∷ [] → IsAsleep s' lits
pushed_sleeps s s' lits same cs bs = grind (arith, length_push, get_or_push)

pub asleep_more : (held : List Entry) (s s' : SleepersValue) (lits : List LitValue) (number : ℕ) → length s.numbers ≡ length s.clauses → s'.clauses ≡ s.clauses ++ lits ∷ [] → s'.numbers ≡ s.numbers ++ number ∷ [] → AreAsleep held s → IsHeldAs held number lits → AreAsleep held s'
asleep_more held s s' lits number same cs ns a h =
    both_more (IsHeldAs held) (λ place. place) s.numbers s'.numbers s.clauses s'.clauses number 0 lits [] ns cs (λ place v. omega (arith, v, same)) (sym same) a h
