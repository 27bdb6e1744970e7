-- What an event makes of a state, and what is shown of runs event by event.
use Rattle.std.proofs.{Common.{◌≡◌, ℕ, ◌&&◌, Bool, true, false, cond, eqb, List, [], ◌∷◌, ◌++◌, drop, set, Option, Some, None, refl, subst, option_and_then, slice_get}, lemmas.Option.same_Some}
use Rattle.schedule.specs.Bags.{Bag}
use Rattle.bag_runs.specs.{declared.mode.Mode.Mode, Stores.{bag_in, received, with_bag}}
use Rattle.node_programs.specs.{declared.op.Op.{Op, TheVariants.{Send, Take}}, Machines.{Message, State, after_op, event, moved, ops_left, queue_in}, Runs.machine_run}

-- ---- the state after a send, and after a take

abbrev pub done : State → ℕ → List (List Op)
done s v = set s.left v (drop 1 (ops_left s v))

abbrev pub after_send : State → ℕ → ℕ → ℕ → ℕ → State
after_send s v chunk to step = moved s v s.store v to (queue_in s v to ++ record { chunk = chunk; step = step; bag = bag_in s.store chunk v } ∷ [])

abbrev pub after_take : State → ℕ → ℕ → ℕ → Mode → Bag → List Message → State
after_take s v chunk from how bag queue = moved s v (with_bag s.store chunk v (received how (bag_in s.store chunk v) bag)) from v queue

abbrev pub taken : State → ℕ → ℕ → ℕ → ℕ → Mode → List Message → Option State
taken s v chunk from step how queue = elim queue [ [] ↦ None | m ∷ rest ↦ cond (eqb m.chunk chunk && eqb m.step step) (Some (after_take s v chunk from how m.bag rest)) None ]

if_some : (passes : Bool) (a b : State) → cond passes (Some a) None ≡ Some b → a ≡ b
if_some true a b is = cc
if_some false a b is = absurd cc

-- an event is a send, or a take of the head of a queue
module _ (P : State → Type 0) (s : State) (v : ℕ) (next : State) (sent : (chunk to step : ℕ) (rest : List Op) → ops_left s v ≡ Send chunk to step ∷ rest → P (after_send s v chunk to step))
    (got : (chunk from step : ℕ) (how : Mode) (rest : List Op) (m : Message) (queue : List Message) → ops_left s v ≡ Take chunk from step how ∷ rest → queue_in s from v ≡ m ∷ queue → P (after_take s v chunk from how m.bag queue)) where
  by_head : (chunk from step : ℕ) (how : Mode) (rest : List Op) → ops_left s v ≡ Take chunk from step how ∷ rest → (queue : List Message) → queue_in s from v ≡ queue → taken s v chunk from step how queue ≡ Some next → P next
  by_head chunk from step how rest is [] first moves = absurd cc
  by_head chunk from step how rest is (m ∷ queue) first moves = subst P (if_some _ (after_take s v chunk from how m.bag queue) next moves) (got chunk from step how rest m queue is first)

  by_op : (ops : List Op) → ops_left s v ≡ ops → option_and_then (after_op s v) (slice_get ops 0) ≡ Some next → P next
  by_op [] is moves = absurd cc
  by_op (Send chunk to step ∷ rest) is moves = subst P (same_Some (after_send s v chunk to step) next moves) (sent chunk to step rest is)
  by_op (Take chunk from step how ∷ rest) is moves = by_head chunk from step how rest is (queue_in s from v) refl moves

  pub event_cases : event s v ≡ Some next → P next
  event_cases moves = by_op (ops_left s v) refl moves

-- ---- runs

-- the run of a node and then others, by what its event gives
abbrev pub run_by : Option State → List ℕ → Option State
run_by after nodes = elim after [ None ↦ None | Some next ↦ machine_run next nodes ]

-- what holds of the empty run, and of a run if it holds of the one behind its first event, holds of every run
module _ (Q : State → List ℕ → State → Type 0) (none : (s : State) → Q s [] s) (more : (s next end : State) (v : ℕ) (nodes : List ℕ) → event s v ≡ Some next → Q next nodes end → Q s (v ∷ nodes) end) where
  pub each_run : (nodes : List ℕ) (s end : State) → machine_run s nodes ≡ Some end → Q s nodes end
  each_run [] s end ran = subst (Q s []) (same_Some s end ran) (none s)
  each_run (v ∷ nodes) s end ran = onward (event s v) refl ran (λ next. each_run nodes next end)
    where
      onward : (after : Option State) → event s v ≡ after → run_by after nodes ≡ Some end → ((next : State) → machine_run next nodes ≡ Some end → Q next nodes end) → Q s (v ∷ nodes) end
      onward None is rest later = absurd cc
      onward (Some next) is rest later = more s next end v nodes is (later next rest)

-- what each event keeps, each run keeps
pub run_keeps : (P : State → Type 0) → ((s : State) (v : ℕ) (next : State) → event s v ≡ Some next → P s → P next) → (nodes : List ℕ) (s end : State) → machine_run s nodes ≡ Some end → P s → P end
run_keeps P keeps nodes s end ran = each_run (λ a order b. P a → P b) (λ a here. here) (λ a next b v order is later here. later (keeps a v next is here)) nodes s end ran
