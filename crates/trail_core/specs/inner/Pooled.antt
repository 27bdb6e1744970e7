-- Watch lists that lie in one list of entries, each with room for more.
use Rattle.std.specs.Prelude.{◌≢◌, ◌⊎◌, ℕ, ◌+◌, ◌<◌, ◌≤◌, List, get_or, map, take, drop}
use Rattle.trail_core.specs.{Watching.WatchValue, declared.span.{Span.Span, Room.Room}}

-- so many elements from a place on
abbrev pub part : {X : Type 0} → List X → ℕ → ℕ → List X
part xs start n = take n (drop start xs)

abbrev pub entries_of : List WatchValue → Span → List WatchValue
entries_of pool s = part pool s.start s.len

abbrev pub numbers_of : List WatchValue → List ℕ
numbers_of entries = map (λ w. w.clause) entries

-- a list that there is not lies nowhere and has no room
abbrev pub no_span : Span
no_span = record { start = 0; len = 0 }

abbrev pub span_at : List Span → ℕ → Span
span_at spans k = get_or spans k no_span

abbrev pub room_at : List Room → ℕ → Room
room_at rooms k = get_or rooms k (record { size = 0; uses = 0 })

-- the room of a list lies in a pool of so many entries, and holds the list and what it may come to hold
pub record IsInside (size : ℕ) (s : Span) (r : Room) : Type 0 where
  pub holds : s.len ≤ r.size
  pub fits : r.uses ≤ r.size
  pub ends : s.start + r.size ≤ size

abbrev pub AreApart : Span → Room → Span → Room → Type 0
AreApart s q t r = (s.start + q.size ≤ t.start) ⊎ (t.start + r.size ≤ s.start)

-- no two lists have a place in common
pub record ArePooled (size : ℕ) (spans : List Span) (rooms : List Room) : Type 0 where
  pub inside : (i : ℕ) → IsInside size (span_at spans i) (room_at rooms i)
  pub apart : (i j : ℕ) → i ≢ j → AreApart (span_at spans i) (room_at rooms i) (span_at spans j) (room_at rooms j)
  pub small : size < 4294967296
