-- The machine as it is kept: what an event makes of it, and that it stays right.
use Rattle.std.proofs.Common.{◌≡◌, ℕ, zero, suc, ◌+◌, ◌*◌, ◌<◌, ◌≤◌, false, cond, eqb, List, [], ◌∷◌, length, map, get_or, set, drop, Some, refl, ap, subst, ◌∙◌, arith, get_or-set_same, get_or-set_other, option_and_then, slice_get}
use Rattle.std.{proofs.lemmas.{Bool.{and_from, eq-eqb}, List.{get_or-map, length-set, map-append, map-set}, Nat.mul-add-lt}, specs.{Prelude.unwrap_or, List.AllByRecursion}}
use Rattle.node_programs.specs.{declared.{op.Op.{Op, TheVariants.{Send, Take}}, message.Message.Message as Parcel}, Below.IsOpBelow, Machines.{Message, State, event, ops_left}}
use Rattle.node_programs.{specs.Queues.{IsMachine, QueueValue, message_in, messages_in, no_queue, queue_of, sends_to, with_message, without_first}, proofs.Events.{after_take, taken}}
use Rattle.bag_runs.{specs.{declared.mode.Mode.Mode, Stores.{StoreValue, bag_in, received, with_bag}, Kept.counted}, proofs.Cells.{cell_below, cell_beside, cell_here, differ, same_or_not}}

-- ---- lists of lists

module _ {X : Type 0} (P : X → Type 0) where
  head_each : (xs : List X) (x : X) → AllByRecursion P xs → slice_get xs 0 ≡ Some x → P x
  head_each [] x all is = absurd cc
  head_each (y ∷ ys) x all is = let same : y ≡ x = cc in subst P same all.0

  tail_each : (xs : List X) → AllByRecursion P xs → AllByRecursion P (drop 1 xs)
  tail_each [] all = tt
  tail_each (x ∷ xs) all = all.1

  each_at : (xss : List (List X)) (i : ℕ) → AllByRecursion (AllByRecursion P) xss → AllByRecursion P (get_or xss i [])
  each_at [] i all = tt
  each_at (xs ∷ xss) zero all = all.0
  each_at (xs ∷ xss) (suc i) all = each_at xss i all.1

  each_set : (xs : List X) (i : ℕ) (x : X) → AllByRecursion P xs → P x → AllByRecursion P (set xs i x)
  each_set [] i x all here = tt
  each_set (y ∷ ys) zero x all here = (here, all.1)
  each_set (y ∷ ys) (suc i) x all here = (all.0, each_set ys i x all.1 here)

-- ---- what a next operation sends

sends_head : (ops : List Op) (chunk to step other : ℕ) → slice_get ops 0 ≡ Some (Send chunk to step) → sends_to other ops ≡ sends_to other (drop 1 ops) + cond (eqb to other) 1 zero
sends_head [] chunk to step other is = absurd cc
sends_head (op ∷ ops) chunk to step other is = grind arith

takes_head : (ops : List Op) (chunk from step : ℕ) (how : Mode) (other : ℕ) → slice_get ops 0 ≡ Some (Take chunk from step how) → sends_to other ops ≡ sends_to other (drop 1 ops)
takes_head [] chunk from step how other is = absurd cc
takes_head (op ∷ ops) chunk from step how other is = let same : op ≡ Take chunk from step how = cc in ap (λ o. sends_to other (o ∷ ops)) same

-- ---- the machine

module _ (chunks nodes : ℕ) (programs : List (List Op)) (queues : List QueueValue) (kept : IsMachine chunks nodes programs queues) where
  pub place_inside : (from to : ℕ) → from < nodes → to < nodes → from * nodes + to < length queues
  place_inside from to low high = omega (arith, kept.pairs, mul-add-lt from nodes to nodes low high)

  pub next_below : (node : ℕ) (op : Op) → slice_get (get_or programs node []) 0 ≡ Some op → IsOpBelow chunks nodes op
  next_below node op is = head_each (IsOpBelow chunks nodes) (get_or programs node []) op (each_at (IsOpBelow chunks nodes) programs node kept.in_range) is

  pub room_for : (node chunk to step : ℕ) → node < nodes → slice_get (get_or programs node []) 0 ≡ Some (Send chunk to step) → 0 < (queue_of queues nodes node to).room
  room_for node chunk to step inside is = grind (arith, next_below node (Send chunk to step) is, ap (λ b. cond b 1 zero) (eq-eqb to to refl), sends_head)

  module _ (node : ℕ) (inside : node < nodes) where
    abbrev ops : List Op
    ops = get_or programs node []

    -- the node has done its next operation
    abbrev pub moved : List (List Op)
    moved = set programs node (drop 1 ops)

    left_here : get_or moved node [] ≡ drop 1 ops
    left_here = get_or-set_same programs node (drop 1 ops) [] (omega (arith, inside, kept.nodes_are))

    left_beside : (u : ℕ) → eqb u node ≡ false → get_or moved u [] ≡ get_or programs u []
    left_beside u apart = get_or-set_other programs node u (drop 1 ops) [] (differ u node apart)

    fewer : ((v : ℕ) → sends_to v (drop 1 ops) ≤ sends_to v ops) → (u v : ℕ) → sends_to v (get_or moved u []) ≤ sends_to v (get_or programs u [])
    fewer less u v = grind (arith, same_or_not, left_here, left_beside)

    -- one queue changed, with room for what is still sent through it
    kept_event : (from to : ℕ) (q : QueueValue) → from < nodes → to < nodes → ((v : ℕ) → sends_to v (drop 1 ops) ≤ sends_to v ops) → sends_to to (get_or moved from []) ≤ q.room
        → IsMachine chunks nodes moved (set queues (from * nodes + to) q)
    kept_event from to q low high less enough = record {
      nodes_are = length-set programs node (drop 1 ops) ∙ kept.nodes_are;
      pairs = length-set queues (from * nodes + to) q ∙ kept.pairs;
      in_range = each_set (AllByRecursion (IsOpBelow chunks nodes)) programs node (drop 1 ops) kept.in_range (tail_each (IsOpBelow chunks nodes) ops (each_at (IsOpBelow chunks nodes) programs node kept.in_range));
      room = room;
    }
      where
        unchanged : (u v : ℕ) → u < nodes → v < nodes → queue_of (set queues (from * nodes + to) q) nodes u v ≡ queue_of queues nodes u v → sends_to v (get_or moved u []) ≤ (queue_of (set queues (from * nodes + to) q) nodes u v).room
        unchanged u v low high same = omega (arith, fewer less u v, kept.room u v low high, ap (λ x. x.room) same)

        room : (u v : ℕ) → u < nodes → v < nodes → sends_to v (get_or moved u []) ≤ (queue_of (set queues (from * nodes + to) q) nodes u v).room
        room u v low_u low_v = grind (arith, same_or_not, cell_here, unchanged, cell_beside, differ, cell_below)

    pub kept_send : (chunk to step : ℕ) (m : Parcel) → slice_get ops 0 ≡ Some (Send chunk to step) → IsMachine chunks nodes moved (set queues (node * nodes + to) (with_message (queue_of queues nodes node to) m))
    kept_send chunk to step m is =
        let below = next_below node (Send chunk to step) is in
        let counts : cond (eqb to to) 1 zero ≡ 1 = ap (λ b. cond b 1 zero) (eq-eqb to to refl) in
        kept_event node to (with_message (queue_of queues nodes node to) m) inside below.1
        (λ v. omega (arith, sends_head ops chunk to step v is))
        (omega (arith, ap (sends_to to) left_here, kept.room node to inside below.1, sends_head ops chunk to step to is, counts))

    pub kept_take : (chunk from step : ℕ) (how : Mode) → slice_get ops 0 ≡ Some (Take chunk from step how) → IsMachine chunks nodes moved (set queues (from * nodes + node) (without_first (queue_of queues nodes from node)))
    kept_take chunk from step how is =
        let below = next_below node (Take chunk from step how) is in
        kept_event from node (without_first (queue_of queues nodes from node)) below.1 inside
        (λ v. omega (arith, takes_head ops chunk from step how v is))
        (omega (arith, fewer (λ v. omega (arith, takes_head ops chunk from step how v is)) from node, kept.room from node below.1 inside))

-- ---- what it stands for

abbrev pub state_of : List (List Op) → StoreValue → List QueueValue → State
state_of programs store queues = record { left = programs; store = store; queues = map (messages_in store.nodes) queues }

same_state : (a b : List (List Op)) (s : StoreValue) (c d : List (List Message)) → a ≡ b → c ≡ d → ◌≡◌ {A = State} (record { left = a; store = s; queues = c }) (record { left = b; store = s; queues = d })
same_state a b s c d left queues = λ i. record { left = left i; store = s; queues = queues i }

queue_at : (nodes : ℕ) (queues : List QueueValue) (place : ℕ) → place < length queues → get_or (map (messages_in nodes) queues) place [] ≡ messages_in nodes (get_or queues place no_queue)
queue_at nodes queues place inside = get_or-map (messages_in nodes) queues place no_queue [] inside

head_mapped : (nodes : ℕ) (ms : List Parcel) (m : Parcel) → slice_get ms 0 ≡ Some m → map (message_in nodes) ms ≡ message_in nodes m ∷ map (message_in nodes) (drop 1 ms)
head_mapped nodes [] m is = absurd cc
head_mapped nodes (x ∷ xs) m is = let same : x ≡ m = cc in ap (λ y. message_in nodes y ∷ map (message_in nodes) xs) same

module _ (programs : List (List Op)) (store : StoreValue) (queues : List QueueValue) (node : ℕ) where
  abbrev s : State
  s = state_of programs store queues

  pub state_sent : (chunk to step : ℕ) (bag : List ℕ) (left : List (List Op)) (new : List QueueValue) → node * store.nodes + to < length queues → left ≡ set programs node (drop 1 (get_or programs node []))
      → new ≡ set queues (node * store.nodes + to) (with_message (get_or queues (node * store.nodes + to) no_queue) (record { chunk = chunk; step = step; bag = bag }))
      → counted store.nodes bag ≡ bag_in store chunk node → slice_get (get_or programs node []) 0 ≡ Some (Send chunk to step) → event s node ≡ Some (state_of left store new)
  state_sent chunk to step bag left new inside is_left is_new is_bag next = grind (arith, option_and_then, same_state, map-set, map-append, queue_at)

  module _ (chunk from step : ℕ) (how : Mode) (bag : List ℕ) (inside : from * store.nodes + node < length queues) where
    abbrev place : ℕ
    place = from * store.nodes + node

    abbrev after : State
    after = after_take s node chunk from how (counted store.nodes bag) (messages_in store.nodes (without_first (get_or queues place no_queue)))

    state_got : (left : List (List Op)) (kept : StoreValue) (new : List QueueValue) → left ≡ set programs node (drop 1 (get_or programs node []))
        → kept ≡ with_bag store chunk node (received how (bag_in store chunk node) (counted store.nodes bag))
        → new ≡ set queues place (without_first (get_or queues place no_queue)) → state_of left kept new ≡ after
    state_got left kept new is_left is_kept is_new = grind (arith, same_state, map-set)

    event_got : slice_get (get_or programs node []) 0 ≡ Some (Take chunk from step how) → slice_get (get_or queues place no_queue).messages 0 ≡ Some (record { chunk = chunk; step = step; bag = bag })
        → event s node ≡ Some after
    event_got next head = grind (arith, option_and_then, taken, queue_at, head_mapped, and_from, eq-eqb)

    pub state_taken : (left : List (List Op)) (kept : StoreValue) (new : List QueueValue) → slice_get (get_or programs node []) 0 ≡ Some (Take chunk from step how)
        → slice_get (get_or queues place no_queue).messages 0 ≡ Some (record { chunk = chunk; step = step; bag = bag })
        → left ≡ set programs node (drop 1 (get_or programs node [])) → kept ≡ with_bag store chunk node (received how (bag_in store chunk node) (counted store.nodes bag))
        → new ≡ set queues place (without_first (get_or queues place no_queue)) → state_of left kept new ≡ unwrap_or (event s node) s
    state_taken left kept new next head is_left is_kept is_new = grind (arith, state_got, event_got)

-- ---- the machine as it is seen, at a place of its queues

module _ (programs : List (List Op)) (store : StoreValue) (queues : List QueueValue) (s : State) (seen : state_of programs store queues ≡ s) (kept : IsMachine store.chunks store.nodes programs queues) (node place : ℕ) (inside : node < s.store.nodes) where
  module _ (chunk to step : ℕ) (next : slice_get (ops_left s node) 0 ≡ Some (Send chunk to step)) (at : place ≡ node * s.store.nodes + to) where
    pub seen_room : 0 < (get_or queues place no_queue).room
    seen_room = rw (at, ← seen) (room_for store.chunks store.nodes programs queues kept node chunk to step (rw (← seen) at inside) (rw (← seen) at next))

    module _ (left : List (List Op)) (new : List QueueValue) (bag : List ℕ) (is_left : left ≡ set programs node (drop 1 (get_or programs node []))) (is_new : new ≡ set queues place (with_message (get_or queues place no_queue) (record { chunk = chunk; step = step; bag = bag }))) where
      pub seen_send : IsMachine store.chunks store.nodes left new
      seen_send = rw (is_left, is_new, at, ← seen) (kept_send store.chunks store.nodes programs queues kept node (rw (← seen) at inside) chunk to step (record { chunk = chunk; step = step; bag = bag }) (rw (← seen) at next))

      pub sent_event : counted store.nodes bag ≡ bag_in store chunk node → event s node ≡ Some (state_of left store new)
      sent_event is_bag =
          let first : slice_get (get_or programs node []) 0 ≡ Some (Send chunk to step) = rw (← seen) at next in
          let below = next_below store.chunks store.nodes programs queues kept node (Send chunk to step) first in
          rw (← seen) (state_sent programs store queues node chunk to step bag left new (place_inside store.chunks store.nodes programs queues kept node to (rw (← seen) at inside) below.1) is_left (rw (at, ← seen) at is_new) is_bag first)

  module _ (chunk from step : ℕ) (how : Mode) (next : slice_get (ops_left s node) 0 ≡ Some (Take chunk from step how)) (at : place ≡ from * s.store.nodes + node) where
    below_take : IsOpBelow store.chunks store.nodes (Take chunk from step how)
    below_take = next_below store.chunks store.nodes programs queues kept node (Take chunk from step how) (rw (← seen) at next)

    pub seen_chunk : chunk < store.chunks
    seen_chunk = below_take.0

    pub seen_place : place < length queues
    seen_place = rw (at, ← seen) (place_inside store.chunks store.nodes programs queues kept from node below_take.1 (rw (← seen) at inside))

    module _ (left : List (List Op)) (new : List QueueValue) (is_left : left ≡ set programs node (drop 1 (get_or programs node []))) (is_new : new ≡ set queues place (without_first (get_or queues place no_queue))) where
      pub seen_take : IsMachine store.chunks store.nodes left new
      seen_take = rw (is_left, is_new, at, ← seen) (kept_take store.chunks store.nodes programs queues kept node (rw (← seen) at inside) chunk from step how (rw (← seen) at next))

      pub taken_event : (bag : List ℕ) (after : StoreValue) → slice_get (get_or queues place no_queue).messages 0 ≡ Some (record { chunk = chunk; step = step; bag = bag }) → after ≡ with_bag store chunk node (received how (bag_in store chunk node) (counted store.nodes bag))
          → state_of left after new ≡ unwrap_or (event s node) s
      taken_event bag after head is_after =
          rw (← seen) (state_taken programs store queues node chunk from step how bag (rw (at, ← seen) at seen_place) left after new (rw (← seen) at next) (rw (at, ← seen) at head) is_left is_after (rw (at, ← seen) at is_new))
