-- The lists of a pool, and what a call for the list of one literal does to them.
use Rattle.std.proofs.{Common.{◌≡◌, ℕ, ◌+◌, ◌-◌, ◌<◌, ◌≤◌, List, [], ◌∷◌, ◌++◌, map, length, get_or, set, sym, ap, ◌∙◌, subst, ◌⊎◌, arith, Contains, swap_remove}, Math.{Seq.map-set_same, ListN.get_or-map as get_or-mapped}}
use Rattle.std.proofs.lemmas.List.{get_or_read, get_or-map, length-map, length-set, map-set, map_push, set-get_or}
use Rattle.trail_core.specs.{Watching.{WatchValue, ListsValue, list_at, watches_at, IsOnlyNew}, declared.span.{Span.Span, Room.Room}, inner.Pooled.{entries_of, numbers_of, span_at, room_at, IsInside, ArePooled}}
use Rattle.trail_core.proofs.{Blocking.{in_removed, map_removed, only_new, only_less, in_set, push_entry}}
use Rattle.trail_core.proofs.Pooling.{part_at, views_set, written, part_len, part_set, part_push, part_removed, longer_entries, pooled_same, viewed, listed}

abbrev pub lists_of : List WatchValue → List Span → List Room → ListsValue
lists_of pool spans rooms = record { watches = map (entries_of pool) spans; lists = map numbers_of (map (entries_of pool) spans); rooms = map (λ r. r.size) rooms; uses = map (λ r. r.uses) rooms }

-- where the list of a literal lies, as it is read
pub record Known (pool : List WatchValue) (spans : List Span) (rooms : List Room) (w : ListsValue) (k code : ℕ) (x : Span) : Type 0 where
  pub view : lists_of pool spans rooms ≡ w
  pub at : k ≡ code
  pub pooled : ArePooled (length pool) spans rooms
  pub within : k < length spans
  pub is : x ≡ span_at spans k
  pub start : x.start ≡ (span_at spans k).start
  pub inside : IsInside (length pool) x (room_at rooms k)
  pub many : length (list_at w.lists code) ≡ x.len
  pub room : get_or w.rooms code 0 ≡ (room_at rooms k).size

pub known : (pool : List WatchValue) (spans : List Span) (rooms : List Room) (w : ListsValue) (k code : ℕ) (x : Span) → ArePooled (length pool) spans rooms → lists_of pool spans rooms ≡ w → k ≡ code → code < length w.lists → x ≡ get_or spans k x → Known pool spans rooms w k code x
known pool spans rooms w k code x p v e h is =
    let n : k < length spans = omega (arith, e, h, ap (λ u. length u.lists) v, length-map (map (entries_of pool) spans) numbers_of, length-map spans (entries_of pool)) in
    let i : x ≡ span_at spans k = get_or_read spans k x n is _ in
    let inside : IsInside (length pool) x (room_at rooms k) = subst (λ s. IsInside (length pool) s (room_at rooms k)) (sym i) (p.inside k) in
    grind (arith, viewed pool spans k, listed (map (entries_of pool) spans) k, length-map (entries_of pool x) (λ w. w.clause), part_len pool x.start x.len, get_or-mapped (λ r. r.size) rooms k (room_at [] k))

module _ (pool : List WatchValue) (spans : List Span) (rooms : List Room) (w : ListsValue) (k code : ℕ) (x : Span) (n : Known pool spans rooms w k code x) where
  -- what holds of the lists of the pool holds of the value that they are seen as
  seen : (P : ListsValue → ℕ → Type 0) → P (lists_of pool spans rooms) k → P w code
  seen P p = subst (λ v. P v code) n.view (subst (P (lists_of pool spans rooms)) n.at p)

  many : k < length (map (entries_of pool) spans)
  many = omega (arith, n.within, length-map spans (entries_of pool))

  view_at : entries_of pool x ≡ watches_at (map (entries_of pool) spans) k
  view_at = ap (entries_of pool) n.is ∙ sym (viewed pool spans k)

  -- the list alone changes
  changed : (views' : List (List WatchValue)) (ys : List WatchValue) (zs : List ℕ) (y : WatchValue) → views' ≡ set (map (entries_of pool) spans) k ys → numbers_of ys ≡ zs → ((v : WatchValue) → Contains ys v → Contains (entries_of pool x) v ⊎ (v ≡ y))
      → (map numbers_of views' ≡ set w.lists code zs) × IsOnlyNew w.watches views' code y
  changed views' ys zs y e f new = seen (λ u m. (map numbers_of views' ≡ set u.lists m zs) × IsOnlyNew u.watches views' m y)
      (cc (map-set numbers_of (map (entries_of pool) spans) k ys), subst (λ vs. IsOnlyNew (map (entries_of pool) spans) vs k y) (sym e) (only_new (map (entries_of pool) spans) k ys y many (subst (λ es. (v : WatchValue) → Contains ys v → Contains es v ⊎ (v ≡ y)) view_at new)))

  numbers_at : numbers_of (entries_of pool x) ≡ list_at w.lists code
  numbers_at = seen (λ u m. numbers_of (entries_of pool x) ≡ list_at u.lists m) (ap numbers_of view_at ∙ sym (listed (map (entries_of pool) spans) k))

  pub entry_at : (place : ℕ) (y : WatchValue) → place < x.len → y ≡ get_or pool (x.start + place) y → (y.clause ≡ get_or (list_at w.lists code) place 0) × Contains (watches_at w.watches code) y
  entry_at place y at is =
      let here : get_or (entries_of pool x) place y ≡ y = part_at pool x.start x.len place y at ∙ sym is in
      let lt : place < length (entries_of pool x) = omega (arith, part_len pool x.start x.len) in
      seen (λ u m. (y.clause ≡ get_or (list_at u.lists m) place 0) × Contains (watches_at u.watches m) y)
      (rw (listed, ← view_at) (sym (get_or-map (λ v. v.clause) (entries_of pool x) place y 0 lt ∙ ap (λ v. v.clause) here)), rw (← view_at) (place, lt, here))

  pub pooled_len : (len j : ℕ) (y : WatchValue) → len ≤ (room_at rooms k).size → ArePooled (length (set pool j y)) (set spans k (record { start = x.start; len = len })) rooms
  pooled_len len j y holds = rw length-set (pooled_same _ spans rooms k _ n.pooled n.within n.start holds)

  pub added : (y : WatchValue) → x.len < (room_at rooms k).size → let views' = map (entries_of (set pool (x.start + x.len) y)) (set spans k (record { start = x.start; len = x.len + 1 })) in (map numbers_of views' ≡ set w.lists code (list_at w.lists code ++ y.clause ∷ [])) × IsOnlyNew w.watches views' code y
  added y free = changed _ (entries_of pool x ++ y ∷ []) _ y (written pool spans rooms k (x.start + x.len) y _ _ n.pooled n.within (omega arith) (omega arith) (part_push pool x.start x.len y (omega arith)))
      (map_push (λ v. v.clause) (entries_of pool x) y ∙ ap (λ ns. ns ++ y.clause ∷ []) numbers_at) (λ v h. push_entry (entries_of pool x) y v h)

  pub taken : (place : ℕ) (y : WatchValue) → place < x.len → y ≡ get_or pool (x.start + (x.len - 1)) y → let views' = map (entries_of (set pool (x.start + place) y)) (set spans k (record { start = x.start; len = x.len - 1 })) in
      ((d : ℕ) → map numbers_of views' ≡ set w.lists code (swap_remove (list_at w.lists code) place d)) × ((j : ℕ) (v : WatchValue) → Contains (watches_at views' j) v → Contains (watches_at w.watches j) v)
  taken place y at is =
      let views' = map (entries_of (set pool (x.start + place) y)) (set spans k (record { start = x.start; len = x.len - 1 })) in
      let lt : place < length (entries_of pool x) = omega (arith, part_len pool x.start x.len) in
      let last : (d : WatchValue) → y ≡ get_or pool (x.start + (x.len - 1)) d = get_or_read pool (x.start + (x.len - 1)) y (omega arith) is in
      let moved : (d : WatchValue) → views' ≡ set (map (entries_of pool) spans) k (swap_remove (entries_of pool x) place d) =
      λ d. written pool spans rooms k (x.start + place) y _ _ n.pooled n.within (omega arith) (omega arith) (rw (last d) (part_removed pool x.start x.len place d (omega arith) at)) in
      seen (λ u m. ((d : ℕ) → map numbers_of views' ≡ set u.lists m (swap_remove (list_at u.lists m) place d)) × ((j : ℕ) (v : WatchValue) → Contains (watches_at views' j) v → Contains (watches_at u.watches j) v)) (
        λ d. rw (moved (record y { clause = d }), map-set, listed, ← view_at) (ap (set _ k) (map_removed (λ v. v.clause) (entries_of pool x) place (record y { clause = d }) lt)),
        λ j v h. only_less (map (entries_of pool) spans) k (swap_remove (entries_of pool x) place v) many (λ u g. rw (← view_at) (in_removed (entries_of pool x) place v u lt g)) j v (subst (λ us. Contains (watches_at us j) v) (moved v) h),
      )

  -- an entry of the same clause came in the place of one
  pub replaced : (place : ℕ) (y : WatchValue) → place < x.len → y.clause ≡ get_or (list_at w.lists code) place 0 → let views' = map (entries_of (set pool (x.start + place) y)) spans in (map numbers_of views' ≡ w.lists) × IsOnlyNew w.watches views' code y
  replaced place y at named =
      let whole : set spans k x ≡ spans = ap (set spans k) n.is ∙ set-get_or spans k _ in
      let lt : place < length (entries_of pool x) = omega (arith, part_len pool x.start x.len) in
      let same : y.clause ≡ (get_or (entries_of pool x) place y).clause = named ∙ ap (λ ns. get_or ns place 0) (sym numbers_at) ∙ get_or-map (λ v. v.clause) (entries_of pool x) place y 0 lt in
      let c = changed _ _ (list_at w.lists code) y (written pool spans rooms k (x.start + place) y x _ n.pooled n.within (omega arith) (omega arith) (part_set pool x.start x.len place y (omega arith) at))
      (map-set_same (λ v. v.clause) (entries_of pool x) place y y same ∙ numbers_at) (λ v h. in_set (entries_of pool x) place y v lt h) in
      (rw whole at c.0 ∙ set-get_or w.lists code [], rw whole at c.1)

  -- the list lies where it did, or elsewhere, with the entries that it had
  pub admitted : (pool' : List WatchValue) (s : Span) → length pool ≤ length pool' → ((i : ℕ) (d : WatchValue) → i < length pool → get_or pool' i d ≡ get_or pool i d) → entries_of pool' s ≡ entries_of pool x → map (entries_of pool') (set spans k s) ≡ map (entries_of pool) spans
  admitted pool' s long front same = views_set pool pool' spans k s (watches_at (map (entries_of pool) spans) k) n.within (same ∙ view_at) (λ i ne. longer_entries pool pool' spans rooms i n.pooled long front) ∙ set-get_or (map (entries_of pool) spans) k []
