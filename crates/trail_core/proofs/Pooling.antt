-- Lists that lie in one pool, as entries of one of them change or it is moved.
use Rattle.std.proofs.{lemmas.{Bool.Decides.nat_tests, Grind.common_steps}, Common.{◌≡◌, ◌≢◌, ℕ, ◌+◌, ◌-◌, ◌<◌, ◌≤◌, false, List, [], ◌∷◌, ◌++◌, map, length, get_or, set, drop, ap, ◌∙◌, arith, rules, ◌⊎◌, swap_remove}}
use Rattle.std.proofs.{Math.ListN.get_or-map as get_or-mapped, lemmas.Bool.{cases_eq}}
use Rattle.std.proofs.lemmas.List.{places, same_lists, ext_get_or, get_or-take, get_or-drop, get_or-set_same, get_or-set_other, get_or_append_left, get_or_push, get_or_past, length-set, length-map, get_or_read, length-drop, length-take-le, length_push}
use Rattle.trail_core.specs.{Watching.{WatchValue, no_lit, list_at, watches_at}, inner.Pooled.{part, entries_of, numbers_of, no_span, span_at, room_at, IsInside, AreApart, ArePooled}, declared.span.{Span.Span, Room.Room}}

pub no_watch : WatchValue
no_watch = record { clause = 0; pair = false; blocker = no_lit }

-- ---- a part of a list

pub part_len : {X : Type 0} (xs : List X) (a n : ℕ) → a + n ≤ length xs → length (part xs a n) ≡ n
part_len xs a n w = length-take-le n (drop a xs) (omega (arith, length-drop a xs, w))

pub part_at : {X : Type 0} (xs : List X) (a n i : ℕ) (d : X) → i < n → get_or (part xs a n) i d ≡ get_or xs (a + i) d
part_at xs a n i d w = get_or-take n (drop a xs) i d w ∙ get_or-drop a xs i d

pub part_is : {X : Type 0} (d : X) (xs ys : List X) (a b n : ℕ) → a + n ≤ length xs → b + n ≤ length ys → ((i : ℕ) → i < n → get_or ys (b + i) d ≡ get_or xs (a + i) d) → part ys b n ≡ part xs a n
part_is d xs ys a b n wx wy e = same_lists _ _ (search (rules, places)) (λ k f h. grind (arith, places, e k))

part_away : {X : Type 0} (xs : List X) (j a n : ℕ) (y : X) → a + n ≤ length xs → (j < a) ⊎ (a + n ≤ j) → part (set xs j y) a n ≡ part xs a n
part_away xs j a n y w away = same_lists _ _ (search (rules, places)) (λ k d h. grind (arith, places, away))

pub part_set : {X : Type 0} (xs : List X) (a n i : ℕ) (y : X) → a + n ≤ length xs → i < n → part (set xs (a + i) y) a n ≡ set (part xs a n) i y
part_set xs a n i y w v = same_lists _ _ (search (rules, places)) (λ k d h. grind (arith, places, get_or-set_same, cases_eq k i))

pub part_push : {X : Type 0} (xs : List X) (a n : ℕ) (y : X) → a + n < length xs → part (set xs (a + n) y) a (n + 1) ≡ part xs a n ++ y ∷ []
part_push xs a n y w = same_lists _ _ (search (rules, places)) (λ k d h. grind (arith, places, get_or-set_same, cases_eq k n))

pub part_removed : {X : Type 0} (xs : List X) (a n i : ℕ) (d : X) → a + n ≤ length xs → i < n → part (set xs (a + i) (get_or xs (a + (n - 1)) d)) a (n - 1) ≡ swap_remove (part xs a n) i d
part_removed xs a n i d w v = same_lists _ _ (search (rules, places)) (λ k f h. grind (arith, places, get_or-set_same, cases_eq k i))

-- ---- the entries of lists

pub viewed : (pool : List WatchValue) (spans : List Span) (k : ℕ) → watches_at (map (entries_of pool) spans) k ≡ entries_of pool (span_at spans k)
viewed pool spans k = get_or-mapped (entries_of pool) spans k no_span

pub listed : (views : List (List WatchValue)) (k : ℕ) → list_at (map numbers_of views) k ≡ numbers_of (watches_at views k)
listed views k = get_or-mapped numbers_of views k []

-- lists of no entry
pub none_viewed : (pool : List WatchValue) (spans : List Span) → ((i : ℕ) → (span_at spans i).len ≡ 0) → (k : ℕ) → watches_at (map (entries_of pool) spans) k ≡ []
none_viewed pool spans empty k = viewed pool spans k ∙ ap (part pool (span_at spans k).start) (empty k)

pub none_listed : (pool : List WatchValue) (spans : List Span) → ((i : ℕ) → (span_at spans i).len ≡ 0) → (k : ℕ) → list_at (map numbers_of (map (entries_of pool) spans)) k ≡ []
none_listed pool spans empty k = listed (map (entries_of pool) spans) k ∙ ap numbers_of (none_viewed pool spans empty k)

pub none_push : (spans : List Span) (s : Span) → ((i : ℕ) → (span_at spans i).len ≡ 0) → s.len ≡ 0 → (i : ℕ) → (span_at (spans ++ s ∷ []) i).len ≡ 0
none_push spans s empty e i = grind (arith, empty i, get_or_append_left, get_or_push, get_or_past, length_push)

-- one list changes, and the entries of the others stay
pub views_set : (pool pool' : List WatchValue) (spans : List Span) (k : ℕ) (s : Span) (ys : List WatchValue) → k < length spans → entries_of pool' s ≡ ys → ((i : ℕ) → i ≢ k → entries_of pool' (span_at spans i) ≡ entries_of pool (span_at spans i))
    → map (entries_of pool') (set spans k s) ≡ set (map (entries_of pool) spans) k ys
views_set pool pool' spans k s ys w here same = ext_get_or [] _ _ (grind (arith, length-set, length-map))
    (λ i v. grind (arith, viewed pool' (set spans k s) i, viewed pool spans i, get_or-set_same, get_or-set_other, length-map, same i, cases_eq i k))

-- a place in the room of one list is in none of the others
pub written : (pool : List WatchValue) (spans : List Span) (rooms : List Room) (k j : ℕ) (y : WatchValue) (s : Span) (ys : List WatchValue) → ArePooled (length pool) spans rooms → k < length spans → (span_at spans k).start ≤ j → j < (span_at spans k).start + (room_at rooms k).size → entries_of (set pool j y) s ≡ ys
    → map (entries_of (set pool j y)) (set spans k s) ≡ set (map (entries_of pool) spans) k ys
written pool spans rooms k j y s ys p w low high e = views_set pool (set pool j y) spans k s ys w e
    (λ i ne. part_away pool j (span_at spans i).start (span_at spans i).len y (omega (arith, p.inside i)) (grind (arith, p.apart i k ne, p.inside i)))

-- entries stay where they are in a pool that grows
pub longer_entries : (pool pool' : List WatchValue) (spans : List Span) (rooms : List Room) (i : ℕ) → ArePooled (length pool) spans rooms → length pool ≤ length pool' → ((i : ℕ) (d : WatchValue) → i < length pool → get_or pool' i d ≡ get_or pool i d) → entries_of pool' (span_at spans i) ≡ entries_of pool (span_at spans i)
longer_entries pool pool' spans rooms i p more same =
    let s = span_at spans i in
    part_is no_watch pool pool' s.start s.start s.len (omega (arith, p.inside i)) (omega (arith, p.inside i)) (λ j w. same (s.start + j) no_watch (omega (arith, p.inside i)))

-- ---- where lists lie

pub pooled_set : (size size' : ℕ) (spans : List Span) (rooms : List Room) (k : ℕ) (s : Span) (r : Room) → ArePooled size spans rooms → k < length spans → k < length rooms → size ≤ size' → size' < 4294967296 → IsInside size' s r
    → ((i : ℕ) → i ≢ k → AreApart (span_at spans i) (room_at rooms i) s r) → ArePooled size' (set spans k s) (set rooms k r)
pooled_set size size' spans rooms k s r p w v more small inside apart = grind (arith, get_or-set_same, get_or-set_other)

-- a list that keeps its room
pub pooled_same : (size : ℕ) (spans : List Span) (rooms : List Room) (k : ℕ) (s : Span) → ArePooled size spans rooms → k < length spans → s.start ≡ (span_at spans k).start → s.len ≤ (room_at rooms k).size → ArePooled size (set spans k s) rooms
pooled_same size spans rooms k s p w a holds = grind (arith, get_or-set_same, get_or-set_other, nat_tests, common_steps)

-- a list that stays where it is, or is moved behind all others
pub pooled_roomy : (size size' : ℕ) (spans : List Span) (rooms : List Room) (k : ℕ) (x s : Span) (q r : Room) → ArePooled size spans rooms → k < length spans → k < length rooms → x ≡ get_or spans k x → q ≡ get_or rooms k q → size ≤ size' → size' < 4294967296 → IsInside size' s r
    → ((s.start ≡ x.start) × (r.size ≡ q.size)) ⊎ (s.start ≡ size) → ArePooled size' (set spans k s) (set rooms k r)
pooled_roomy size size' spans rooms k x s q r p w v a b more small inside place =
    pooled_set size size' spans rooms k s r p w v more small inside (λ i ne. grind (arith, p.apart i k ne, p.inside i, get_or_read))

-- a list comes behind the others
pub pooled_push : (size n : ℕ) (spans : List Span) (rooms : List Room) → ArePooled size spans rooms → length rooms ≡ length spans → size + n < 4294967296 → ArePooled (size + n) (spans ++ record { start = size; len = 0 } ∷ []) (rooms ++ record { size = n; uses = n } ∷ [])
pooled_push size n spans rooms p len small = grind (arith, get_or_append_left, get_or_push, get_or_past, length_push)
