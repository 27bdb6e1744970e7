-- Learned clauses that sleep, and the lists in which they are found.
use Rattle.std.specs.Prelude.{◌≡◌, ◌≢◌, ℕ, ◌+◌, ◌*◌, ◌<◌, ◌≤◌, Bool, true, false, List, [], length, get_or, AllPairs, Contains, count_by}
use Rattle.cnf_formula.specs.Literals.{LitValue, code_of}
use Rattle.sleeping_clauses.specs.declared.sleepers.Led.{Led}

-- the variables, and clauses that fell asleep: their literals, their numbers in the ledger, and whether they sleep still
pub record SleepersValue : Type 0 where
  pub vars : ℕ
  pub clauses : List (List LitValue)
  pub numbers : List ℕ
  pub asleep : List Bool

-- none
abbrev pub no_sleepers : ℕ → SleepersValue
no_sleepers vars = record { vars = vars; clauses = []; numbers = []; asleep = [] }

-- how many sleep
abbrev pub sleeping : SleepersValue → ℕ
sleeping s = count_by (λ b. b) s.asleep

abbrev pub AreFew : SleepersValue → Type 0
AreFew s = sleeping s < 18446744073709551616

-- the clause at a place sleeps
pub record IsAsleepAt (s : SleepersValue) (place : ℕ) : Type 0 where
  pub within : place < length s.clauses
  pub asleep : get_or s.asleep place false ≡ true

-- the clause is one that sleeps
abbrev pub IsAsleep : SleepersValue → List LitValue → Type 0
IsAsleep s clause = (place : ℕ) × IsAsleepAt s place × (get_or s.clauses place [] ≡ clause)

-- no clause that sleeps has its literals all in this one
abbrev pub HasNone : SleepersValue → List LitValue → Type 0
HasNone s clause = (other : List LitValue) → IsAsleep s other → ((l : LitValue) → Contains other l → Contains clause l) → ⊥

-- the literal has the mark
pub record HasMark (marks : List ℕ) (stamp : ℕ) (l : LitValue) : Type 0 where
  pub within : code_of l < length marks
  pub is : get_or marks (code_of l) 0 ≡ stamp

-- what the entry of a list stands for is a clause that sleeps and whose literals have the mark
pub record IsCover (clauses : List (List LitValue)) (asleep : List Bool) (marks : List ℕ) (stamp : ℕ) (led : Led) : Type 0 where
  pub within : led.place < length clauses
  pub sleeps : get_or asleep led.place false ≡ true
  pub second : HasMark marks stamp led.second
  pub third : HasMark marks stamp led.third
  pub each : (o : LitValue) → Contains (get_or clauses led.place []) o → HasMark marks stamp o

abbrev pub list_at : List (List Led) → ℕ → List Led
list_at lists code = get_or lists code []

-- one of the clause's literals leads it, and two more of them stand beside it in the list
pub record IsLed (clause : List LitValue) (leads : List (List Led)) (place : ℕ) : Type 0 where
  pub lit : LitValue
  pub stands : Contains clause lit
  pub led : Led
  pub listed : Contains (list_at leads (code_of lit)) led
  pub at : led.place ≡ place
  pub second : Contains clause led.second
  pub third : Contains clause led.third

-- what the tables keep; those by literal are made when the first clause falls asleep
pub record AreStored (vars : ℕ) (clauses : List (List LitValue)) (numbers : List ℕ) (asleep : List Bool) (count : ℕ) (leads : List (List Led)) (marks : List ℕ) : Type 0 where
  pub numbers_len : length numbers ≡ length clauses
  pub asleep_len : length asleep ≡ length clauses
  pub counted : count ≡ count_by (λ b. b) asleep
  pub once : (place : ℕ) → place < length clauses → AllPairs (λ a b. a ≢ b) (get_or clauses place [])
  pub leads_room : 0 < count → 2 * vars + 2 ≤ length leads
  pub marks_room : 0 < count → 2 * vars + 2 ≤ length marks
  pub led : (place : ℕ) → place < length clauses → IsLed (get_or clauses place []) leads place
