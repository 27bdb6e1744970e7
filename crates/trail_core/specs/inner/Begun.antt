-- The clauses that a core begins with, each of which watches its first two literals.
use Rattle.std.specs.Prelude.{◌≡◌, ◌==◌, ℕ, ◌+◌, ◌<◌, ◌≤◌, List, Contains, All, count_by, sum_by, length, get_or}
use Rattle.cnf_formula.specs.Literals.{LitValue, yes}
use Rattle.trail_core.specs.{Watching.{RowValue, ListsValue, watch_count, occurrences, spare, row_at, list_at, AreBlocked}, Search.clauses_of, Kept.IsShort}

-- what stands in the place of a literal that the clause lacks means nothing
abbrev pub front_row : List LitValue → RowValue
front_row lits = record { lits = lits; first = get_or lits 0 (yes 1); second = get_or lits 1 (yes 1) }

-- each list names the clauses that watch its literal, and is no longer than their literals need
pub record IsBegun (rows : List RowValue) (w : ListsValue) (short : List ℕ) : Type 0 where
  pub exact : (e k : ℕ) → count_by (λ x. x == e) (list_at w.lists k) ≡ watch_count (row_at rows e) k
  pub room : (k : ℕ) → length (list_at w.lists k) + sum_by (spare k) rows ≤ sum_by (λ r. occurrences r k) rows
  pub blocked : AreBlocked (clauses_of rows) w.watches
  pub short_known : (e : ℕ) → e < length rows → length (row_at rows e).lits ≤ 1 → Contains short e
  pub short_within : All (IsShort rows) short
