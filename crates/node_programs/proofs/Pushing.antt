-- Operations pushed behind those of a node, and how the programs of a schedule come about step by step.
use Rattle.std.proofs.{Common.{◌≡◌, ℕ, ◌+◌, ◌<◌, ◌≤◌, Bool, true, false, cond, eqb, List, [], ◌∷◌, ◌++◌, length, map, get_or, set, take, refl, sym, ◌∙◌, subst, append_assoc, arith, filter}, lemmas.{Bool.{eq-eqb, Decides.nat_tests}, Grind.common_steps}}
use Rattle.std.{proofs.lemmas.List.{append-nil, map-append, take_all, Elements.filter_more, FromFn.get_or-map-range_with_len}, specs.List.{flat_map, range_with_len}}
use Rattle.list_laws.proofs.Ranges.{flat_map-range_more}
use Rattle.schedule.specs.{declared.hop.Hop.Hop, Sends.ScheduleValue}
use Rattle.node_programs.{specs.{declared.op.Op.Op, Programs.ops_at, inner.Pushed.{send_of, take_of}}, proofs.Each.{flipped, set_each}}
use Rattle.bag_runs.proofs.{Arrivals.filter_both, Counting.map_alike}

-- a program for each of so many nodes
abbrev pub each : ℕ → (ℕ → List Op) → List (List Op)
each nodes begun = map begun (range_with_len 0 nodes)

-- an operation for a node, where it is this one
abbrev for_node : ℕ → ℕ → Op → List Op
for_node v node op = cond (eqb v node) (op ∷ []) []

-- one operation pushed behind those of a node
pushed : (nodes v : ℕ) (begun : ℕ → List Op) (op : Op) → set (each nodes begun) v (get_or (each nodes begun) v [] ++ op ∷ []) ≡ each nodes (λ node. begun node ++ for_node v node op)
pushed nodes v begun op = grind (arith, set_each, flipped, append-nil, get_or-map-range_with_len, eq-eqb)

-- ---- an operation for each of a step's sends

module _ (op_of : Hop → Op) (node_of : Hop → ℕ) where
  -- those that are a node's
  abbrev pub among : List Hop → ℕ → List Op
  among hops node = map op_of (filter (λ h. eqb (node_of h) node) hops)

  one_or_none : (b : Bool) (h : Hop) → map op_of (cond b (h ∷ []) []) ≡ cond b (op_of h ∷ []) []
  one_or_none true h = refl
  one_or_none false h = refl

  among_more : (hops : List Hop) (i node : ℕ) (d : Hop) → i < length hops → among (take (i + 1) hops) node ≡ among (take i hops) node ++ for_node (node_of (get_or hops i d)) node (op_of (get_or hops i d))
  among_more hops i node d inside = grind (arith, nat_tests, common_steps, filter_more, map-append, one_or_none)

  -- what has been pushed of the first so many
  abbrev pub Pushed : List (List Op) → List (List Op) → List Hop → Type 0
  Pushed old new hops = (nodes : ℕ) (begun : ℕ → List Op) → old ≡ each nodes begun → new ≡ each nodes (λ node. begun node ++ among hops node)

  pub pushed_none : (old : List (List Op)) → Pushed old old []
  pushed_none old nodes begun is = is ∙ map_alike begun (λ node. begun node ++ []) (λ node. sym (append-nil (begun node))) (range_with_len 0 nodes)

  pub pushed_more : (old now new : List (List Op)) (hops : List Hop) (i : ℕ) (d : Hop) → Pushed old now (take i hops) → i < length hops
      → new ≡ set now (node_of (get_or hops i d)) (get_or now (node_of (get_or hops i d)) [] ++ op_of (get_or hops i d) ∷ []) → Pushed old new (take (i + 1) hops)
  pushed_more old now new hops i d so_far inside more nodes begun from = grind (arith, pushed, map_alike, append_assoc, among_more)

  pub pushed_all : (old new : List (List Op)) (hops : List Hop) (i : ℕ) → Pushed old new (take i hops) → length hops ≤ i → Pushed old new hops
  pushed_all old new hops i so_far past = let P : List Hop → Type 0 = λ hs. Pushed old new hs in subst P (take_all i hops past) so_far

-- ---- steps

-- the operations of the first so many steps
abbrev pub first_steps : ScheduleValue → ℕ → ℕ → ℕ → List Op
first_steps s adding n node = flat_map (ops_at s.sends adding node) (range_with_len 1 n)

steps_more : (s : ScheduleValue) (adding n node : ℕ) → first_steps s adding (n + 1) node ≡ first_steps s adding n node ++ ops_at s.sends adding node (n + 1)
steps_more s adding n node = flat_map-range_more (ops_at s.sends adding node) 1 n (n + 1) (omega arith)

-- the sends of a step pushed, and then its takes
abbrev pub StepPushed : ℕ → List (List Op) → List (List Op) → List Hop → Type 0
StepPushed adding old new hops = (nodes : ℕ) (begun : ℕ → List Op) → old ≡ each nodes begun → new ≡ each nodes (λ node. (begun node ++ among send_of (λ h. h.from) hops node) ++ among (take_of adding) (λ h. h.to) hops node)

pub step_pushed : (s : ScheduleValue) (adding n nodes : ℕ) (hops : List Hop) (now next : List (List Op)) → hops ≡ filter (λ h. eqb h.step (n + 1)) s.sends
    → now ≡ each nodes (first_steps s adding n) → StepPushed adding now next hops → next ≡ each nodes (first_steps s adding (n + 1))
step_pushed s adding n nodes hops now next is so_far pushed_both = grind (arith, map_alike, filter_both, append_assoc, steps_more)
