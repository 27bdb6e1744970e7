-- Clauses in a table by their numbers, and the lists in which a literal's clauses are found (occurrence lists).
use Rattle.std.specs.{Prelude.{◌≡◌, ◌==◌, ◌&&◌, ◌||◌, not, ℕ, ◌+◌, ◌*◌, ◌-◌, ◌<◌, Bool, true, false, List, [], ◌∷◌, length, slice_index, slice_index_or, take, ◌≤◌, All, Contains, if◌then◌else◌}, List.list_any}
use Rattle.cnf_formula.specs.{Literals.{LitValue, has_literal, is_superset, code_of}, Formulas.IsClause}
use Rattle.lrat_checker.specs.{inner.Leads.{IsLead, signature_of, has_bits_within}, declared.leads.LedClause.LedClause}
use Rattle.proof_rules.specs.{Held.Entry, Accepting.{Group, is_answered}}

-- the clauses that are in it, those of them that are held, and the greatest number of any, or 0
pub record TableValue : Type 0 where
  pub vars : ℕ
  pub clauses : List (List LitValue)
  pub held : List Entry
  pub last : ℕ

-- the first so many clauses stay, and what is held
pub record HasForgotten (first : ℕ) (before now : TableValue) : Type 0 where
  pub vars : now.vars ≡ before.vars
  pub many : first ≤ length now.clauses
  pub clauses : take first now.clauses ≡ take first before.clauses
  pub held : now.held ≡ before.held
  pub last : now.last ≤ before.last

-- beside each number stands whether its clause is held
abbrev pub held_of : List ℕ → List Bool → List (List LitValue) → List Entry
held_of [] live clauses = []
held_of (id ∷ ids) [] clauses = []
held_of (id ∷ ids) (b ∷ live) [] = []
held_of (id ∷ ids) (b ∷ live) (clause ∷ clauses) = if b then (id, clause) ∷ held_of ids live clauses else held_of ids live clauses

-- a clause is held under the number
abbrev pub is_live : List ℕ → List Bool → ℕ → Bool
is_live [] live id = false
is_live (x ∷ ids) [] id = false
is_live (x ∷ ids) (b ∷ live) id = (b && x == id) || is_live ids live id

-- what stays held without the clauses of these numbers
abbrev pub kept_live : List ℕ → List Bool → List ℕ → List Bool
kept_live [] live gone = []
kept_live (x ∷ ids) [] gone = []
kept_live (x ∷ ids) (b ∷ live) gone = (b && not (list_any (λ id. id == x) gone)) ∷ kept_live ids live gone

abbrev pub last_of : List ℕ → ℕ
last_of ids = slice_index ids (length ids - 1)

abbrev pub Rises : List ℕ → Type 0
Rises ids = (i j : ℕ) → i < j → j < length ids → slice_index ids i < slice_index ids j

abbrev pub list_at : {A : Type 0} → List (List A) → ℕ → List A
list_at lists code = slice_index_or lists code []

-- the clause at a place is held
abbrev pub is_held : List Bool → ℕ → Bool
is_held live k = slice_index_or live k false

-- each held clause is in the list of each of its literals
pub record IsIndexed (vars : ℕ) (live : List Bool) (clauses : List (List LitValue)) (lists : List (List ℕ)) : Type 0 where
  pub long : length lists ≡ 2 * vars + 2
  pub each : (k : ℕ) (l : LitValue) → is_held live k ≡ true → has_literal (slice_index_or clauses k []) l ≡ true → Contains (list_at lists (code_of l)) k

-- a clause in the list of what leads it: its place, and its signature
abbrev pub led_as : ℕ → List LitValue → LedClause
led_as k clause = record { place = k; signature = signature_of clause }

-- each clause is in one such list
pub record IsLed (vars : ℕ) (clauses : List (List LitValue)) (leads : List (List LedClause)) : Type 0 where
  pub long : length leads ≡ 2 * vars + 2
  pub each : (k : ℕ) → k < length clauses → (code : ℕ) × IsLead (slice_index_or clauses k []) code × Contains (list_at leads code) (led_as k (slice_index_or clauses k []))

-- the clause at a place is held, and every literal of it stands among these
abbrev pub covers : List Bool → List (List LitValue) → List LitValue → ℕ → Bool
covers live clauses lits k = is_held live k && is_superset lits (slice_index_or clauses k [])

-- a clause that is led, of which the signature does not say that it lacks one of these literals, is such a clause
abbrev pub finds : List Bool → List (List LitValue) → List LitValue → ℕ → LedClause → Bool
finds live clauses lits signature led = has_bits_within led.signature signature && covers live clauses lits led.place

-- the clause at a place has no negated pivot, or has a group, or is true without one
abbrev pub answers : List ℕ → List (List LitValue) → LitValue → List LitValue → List Group → ℕ → Bool
answers ids clauses pivot falses groups k = is_answered pivot falses groups (slice_index ids k, slice_index_or clauses k [])

pub record IsStored (vars : ℕ) (ids : List ℕ) (live : List Bool) (clauses : List (List LitValue)) (lists : List (List ℕ)) (leads : List (List LedClause)) : Type 0 where
  pub rises : Rises ids
  pub some : All (λ id. 0 < id) ids
  pub lives : length live ≡ length ids
  pub many : length clauses ≡ length ids
  pub about : All (IsClause vars) clauses
  pub indexed : IsIndexed vars live clauses lists
  pub led : IsLed vars clauses leads
