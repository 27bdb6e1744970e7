-- Clauses with two watched literals each, and for each literal the list of the clauses that watch it.
use Rattle.std.specs.Prelude.{◌≡◌, ◌≢◌, ◌==◌, ◌⊎◌, ℕ, ◌+◌, ◌-◌, ◌*◌, ◌<◌, ◌≤◌, Bool, true, false, List, [], Contains, All, count_by, sum_by, length, get_or, nat_lt, cond, if◌then◌else◌}
use Rattle.cnf_formula.specs.{Literals.{LitValue, code_of}, Formulas.IsAbout}

-- a clause, and the two literals that it watches; a clause of less than two literals watches none
pub record RowValue : Type 0 where
  pub lits : List LitValue
  pub first : LitValue
  pub second : LitValue

-- an entry of a literal's list: a clause, another literal of it (a blocking literal), and whether these two are all that it has
pub record WatchValue : Type 0 where
  pub clause : ℕ
  pub pair : Bool
  pub blocker : LitValue

-- the entries by the numbers of their literals, and the clauses that they name; how many entries each list has room for, and how many
-- it may need
pub record ListsValue : Type 0 where
  pub watches : List (List WatchValue)
  pub lists : List (List ℕ)
  pub rooms : List ℕ
  pub uses : List ℕ

abbrev pub no_lit : LitValue
no_lit = record { var = 0; positive = false }

abbrev pub no_row : RowValue
no_row = record { lits = []; first = no_lit; second = no_lit }

-- how often a literal is watched by a clause
abbrev pub watch_count : RowValue → ℕ → ℕ
watch_count r k = if nat_lt 1 (length r.lits) then cond (code_of r.first == k) 1 0 + cond (code_of r.second == k) 1 0 else 0

abbrev pub occurrences : RowValue → ℕ → ℕ
occurrences r k = count_by (λ l. code_of l == k) r.lits

-- a list keeps room for each place of its literal in a clause that does not watch it
abbrev pub spare : ℕ → RowValue → ℕ
spare k r = occurrences r k - watch_count r k

abbrev pub row_at : List RowValue → ℕ → RowValue
row_at rows e = get_or rows e no_row

abbrev pub list_at : List (List ℕ) → ℕ → List ℕ
list_at lists k = get_or lists k []

abbrev pub watches_at : List (List WatchValue) → ℕ → List WatchValue
watches_at watches k = get_or watches k []

-- the clause has the blocking literal, and it has no other beside the literal of this number if it is marked as one of two
pub record IsBlocked (clause : List LitValue) (k : ℕ) (w : WatchValue) : Type 0 where
  pub stands : Contains clause w.blocker
  pub pair : w.pair ≡ true → (o : LitValue) → Contains clause o → (o ≡ w.blocker) ⊎ (code_of o ≡ k)

abbrev pub AreBlocked : List (List LitValue) → List (List WatchValue) → Type 0
AreBlocked clauses watches = (k : ℕ) (w : WatchValue) → Contains (watches_at watches k) w → IsBlocked (get_or clauses w.clause []) k w

-- of the entries in the second lists at most this one, in the list of this number, is in none of the first
abbrev pub IsOnlyNew : List (List WatchValue) → List (List WatchValue) → ℕ → WatchValue → Type 0
IsOnlyNew old new at watch = (k : ℕ) (w : WatchValue) → Contains (watches_at new k) w → Contains (watches_at old k) w ⊎ ((k ≡ at) × (w ≡ watch))

-- the lists name each clause as often as it watches the literal, and have room for it to be watched elsewhere
pub record IsWatched (rows : List RowValue) (w : ListsValue) : Type 0 where
  pub exact : (e k : ℕ) → count_by (λ x. x == e) (list_at w.lists k) ≡ watch_count (row_at rows e) k
  pub room : (k : ℕ) → length (list_at w.lists k) + sum_by (spare k) rows ≤ get_or w.uses k 0
  pub fits : (k : ℕ) → get_or w.uses k 0 ≤ get_or w.rooms k 0

-- a clause names its variables, and watches two different literals of its own
pub record IsRow (vars : ℕ) (r : RowValue) : Type 0 where
  pub within : All (IsAbout vars) r.lits
  pub first : 1 < length r.lits → Contains r.lits r.first
  pub second : 1 < length r.lits → Contains r.lits r.second
  pub differ : 1 < length r.lits → r.first ≢ r.second

abbrev pub AreRows : ℕ → List RowValue → Type 0
AreRows vars rows = (e : ℕ) → e < length rows → IsRow vars (row_at rows e)

pub record AreLists (vars : ℕ) (w : ListsValue) : Type 0 where
  pub lists_len : length w.lists ≡ 2 * vars + 2
  pub rooms_len : length w.rooms ≡ 2 * vars + 2
  pub uses_len : length w.uses ≡ 2 * vars + 2

-- each list is within its uses, and these within its room
pub record HasRoom (w : ListsValue) : Type 0 where
  pub few : (k : ℕ) → length (list_at w.lists k) ≤ get_or w.uses k 0
  pub fits : (k : ℕ) → get_or w.uses k 0 ≤ get_or w.rooms k 0
