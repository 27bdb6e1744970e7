-- A step of a store: its sends arrive one after the other.
use Rattle.std.proofs.{Common.{◌≡◌, ℕ, ◌+◌, ◌*◌, ◌<◌, ◌≤◌, Bool, true, false, ◌&&◌, cond, eqb, List, [], ◌∷◌, ◌++◌, length, get_or, take, inl, inr, refl, sym, ap, ◌∙◌, arith, filter, fold}, lemmas.Bool.{and_from, eq-eqb}}
use Rattle.std.{proofs.{lemmas.List.{length-set, take_all, take_more, Elements.{All-filter, All-same, recursion_from_All}}, Math.Bool.and-false}, specs.List.AllByRecursion}
use Rattle.schedule.specs.{declared.hop.Hop.Hop, Sends.{IsInRange, IsSchedule, ScheduleValue, hop_before, is_hop_below}, Placed.same_pair, Summing.goes_to, Bags.{Bag, Bags, held_at_2}, JoinedRuns.joined_step}
use Rattle.schedule.proofs.{First.{InOrder-from_pairs, each_filter, each_weaker}, Joining.{IsHopBelow, hop_below}}
use Rattle.bag_runs.specs.{declared.mode.Mode.Mode, Stores.{mode_at, StoreValue, bag_in, received, stored, with_bag}}
use Rattle.bag_runs.proofs.{Arrivals.{filter_both, fold_alike, merges}, Cells.{cell_below, cell_beside, cell_here, differ, same_or_not}, Tables.{same_table, table_cell, table_length}}

module _ (how : Mode) (before : StoreValue) where
  -- what a send brings, of the bags before the step
  abbrev pub arrive : StoreValue → Hop → StoreValue
  arrive s h = with_bag s h.chunk h.to (received how (bag_in s h.chunk h.to) (bag_in before h.chunk h.from))

  abbrev pub arrived : StoreValue → List Hop → StoreValue
  arrived s [] = s
  arrived s (h ∷ hops) = arrived (arrive s h) hops

  pub arrived_more : (hops : List Hop) (s : StoreValue) (h : Hop) → arrived s (hops ++ h ∷ []) ≡ arrive (arrived s hops) h
  arrived_more [] s h = refl
  arrived_more (o ∷ hops) s h = arrived_more hops (arrive s o) h

  pub chunks_arrived : (hops : List Hop) (s : StoreValue) → (arrived s hops).chunks ≡ s.chunks
  chunks_arrived [] s = refl
  chunks_arrived (h ∷ hops) s = chunks_arrived hops (arrive s h)

  pub nodes_arrived : (hops : List Hop) (s : StoreValue) → (arrived s hops).nodes ≡ s.nodes
  nodes_arrived [] s = refl
  nodes_arrived (h ∷ hops) s = nodes_arrived hops (arrive s h)

  size_arrived : (hops : List Hop) (s : StoreValue) → length (arrived s hops).bags ≡ length s.bags
  size_arrived [] s = refl
  size_arrived (h ∷ hops) s = size_arrived hops (arrive s h) ∙ length-set s.bags (h.chunk * s.nodes + h.to) (received how (bag_in s h.chunk h.to) (bag_in before h.chunk h.from))

  -- what goes to a chunk of a node
  abbrev goes : ℕ → ℕ → Hop → Bool
  goes chunk node h = same_pair (h.chunk, h.to) (chunk, node)

  -- one after the other, what goes to a node's bag is received by it
  cell_arrived : (chunks nodes chunk node : ℕ) → chunk < chunks → node < nodes → (hops : List Hop) (s : StoreValue) → AllByRecursion (IsHopBelow chunks nodes) hops → s.nodes ≡ nodes → length s.bags ≡ chunks * nodes
      → bag_in (arrived s hops) chunk node ≡ fold (λ bag h. received how bag (bag_in before h.chunk h.from)) (bag_in s chunk node) (filter (goes chunk node) hops)
  cell_arrived chunks nodes chunk node low inside [] s below width size = refl
  cell_arrived chunks nodes chunk node low inside (h ∷ hops) s below width size =
      cell_arrived chunks nodes chunk node low inside hops (arrive s h) below.1 width (length-set s.bags (h.chunk * s.nodes + h.to) new ∙ size) ∙ by_chunk
    where
      new : Bag
      new = received how (bag_in s h.chunk h.to) (bag_in before h.chunk h.from)

      step : Bag → Hop → Bag
      step bag o = received how bag (bag_in before o.chunk o.from)

      rest : List Hop
      rest = filter (goes chunk node) hops

      cells : length s.bags ≡ chunks * s.nodes
      cells = size ∙ ap (λ n. chunks * n) (sym width)

      to_low : h.to < s.nodes
      to_low = omega (arith, below.0.to, width)

      node_low : node < s.nodes
      node_low = omega (arith, inside, width)

      here : h.chunk ≡ chunk → h.to ≡ node → fold step (bag_in (arrive s h) chunk node) rest ≡ fold step (bag_in s chunk node) (cond (goes chunk node h) (h ∷ rest) rest)
      here same same_too =
          let at : bag_in (arrive s h) chunk node ≡ step (bag_in s chunk node) h =
          ap (λ x. bag_in (arrive s h) x node) (sym same) ∙ ap (λ x. bag_in (arrive s h) h.chunk x) (sym same_too)
          ∙ cell_here s.bags chunks s.nodes [] h.chunk h.to new cells below.0.chunk to_low
          ∙ ap (λ x. received how (bag_in s x h.to) (bag_in before h.chunk h.from)) same ∙ ap (λ x. received how (bag_in s chunk x) (bag_in before h.chunk h.from)) same_too in
          ap (λ bag. fold step bag rest) at ∙ sym (ap (λ b. fold step (bag_in s chunk node) (cond b (h ∷ rest) rest)) (and_from _ _ (eq-eqb h.chunk chunk same) (eq-eqb h.to node same_too)))

      other : bag_in (arrive s h) chunk node ≡ bag_in s chunk node → goes chunk node h ≡ false → fold step (bag_in (arrive s h) chunk node) rest ≡ fold step (bag_in s chunk node) (cond (goes chunk node h) (h ∷ rest) rest)
      other same fails = ap (λ bag. fold step bag rest) same ∙ sym (ap (λ b. fold step (bag_in s chunk node) (cond b (h ∷ rest) rest)) fails)

      by_chunk : fold step (bag_in (arrive s h) chunk node) rest ≡ fold step (bag_in s chunk node) (cond (goes chunk node h) (h ∷ rest) rest)
      by_chunk =
          elim (same_or_not h.chunk chunk) [
            | inl same ↦ elim (same_or_not h.to node) [
              | inl same_too ↦ here same same_too
              | inr apart ↦ other (cell_beside s.bags chunks s.nodes [] h.chunk h.to chunk node new to_low node_low (λ e. differ h.to node apart (sym e))) (ap (λ b. eqb h.chunk chunk && b) apart ∙ and-false (eqb h.chunk chunk))
            ]
            | inr apart ↦ other (cell_below s.bags chunks s.nodes [] h.chunk h.to chunk node new to_low node_low (λ e. differ h.chunk chunk apart (sym e))) (ap (λ b. b && eqb h.to node) apart)
          ]

same_store : (a b : StoreValue) → a.chunks ≡ b.chunks → a.nodes ≡ b.nodes → a.bags ≡ b.bags → a ≡ b
same_store a b chunks nodes bags = λ i. record { chunks = chunks i; nodes = nodes i; bags = bags i }

module _ (chunks nodes : ℕ) (bags : Bags) (s : ScheduleValue) (adding step : ℕ) (valid : IsSchedule s) (range : IsInRange chunks nodes s) where
  abbrev first : StoreValue
  first = stored chunks nodes bags

  abbrev mode : Mode
  mode = mode_at adding step

  abbrev hops : List Hop
  hops = filter (λ h. eqb h.step step) s.sends

  below : AllByRecursion (IsHopBelow chunks nodes) hops
  below = each_filter (IsHopBelow chunks nodes) (λ h. eqb h.step step) s.sends (each_weaker (λ h. is_hop_below chunks nodes h ≡ true) (IsHopBelow chunks nodes) (hop_below chunks nodes) s.sends (recursion_from_All (λ h. is_hop_below chunks nodes h ≡ true) s.sends range))

  bag_at : (c v : ℕ) → c < chunks → v < nodes → bag_in first c v ≡ held_at_2 (bags (c, v))
  bag_at c v low inside = table_cell (λ pair. held_at_2 (bags pair)) nodes chunks c v [] low inside

  cell : (c v : ℕ) → c < chunks → v < nodes → bag_in (arrived mode first first hops) c v ≡ held_at_2 (joined_step s.sends adding bags step (c, v))
  cell c v low inside =
      let mine : List Hop = filter (λ h. same_pair (h.chunk, h.to) (c, v)) hops in
      let early : Bag → Hop → Bag = λ bag h. received mode bag (bag_in first h.chunk h.from) in
      let late : Bag → Hop → Bag = λ bag h. received mode bag (held_at_2 (bags (h.chunk, h.from))) in
      cell_arrived mode first chunks nodes c v low inside hops first below refl (table_length (λ pair. held_at_2 (bags pair)) nodes chunks)
      ∙ ap (λ bag. fold early bag mine) (bag_at c v low inside)
      ∙ fold_alike (IsHopBelow chunks nodes) early late (λ bag h is. ap (received mode bag) (bag_at h.chunk h.from is.chunk is.from)) mine (each_filter (IsHopBelow chunks nodes) (λ h. same_pair (h.chunk, h.to) (c, v)) hops below) (held_at_2 (bags (c, v)))
      ∙ ap (fold late (held_at_2 (bags (c, v)))) (filter_both (λ h. eqb h.step step) (λ h. same_pair (h.chunk, h.to) (c, v)) (goes_to step (c, v)) (λ h. refl) s.sends)
      ∙ merges step c v bags s.sends adding (InOrder-from_pairs hop_before s.sends valid.ascending)

  -- a step's sends, arrived in order, leave the store of the joined run after the step
  pub step_arrived : arrived mode first first hops ≡ stored chunks nodes (joined_step s.sends adding bags step)
  step_arrived =
      let size : length (arrived mode first first hops).bags ≡ chunks * nodes = size_arrived mode first hops first ∙ table_length (λ pair. held_at_2 (bags pair)) nodes chunks in
      same_store (arrived mode first first hops) (stored chunks nodes (joined_step s.sends adding bags step)) (chunks_arrived mode first hops first) (nodes_arrived mode first hops first)
      (same_table (λ pair. held_at_2 (joined_step s.sends adding bags step pair)) nodes chunks (arrived mode first first hops).bags [] size right)
    where
      right : (c v : ℕ) → c < chunks → v < nodes → get_or (arrived mode first first hops).bags (c * nodes + v) [] ≡ held_at_2 (joined_step s.sends adding bags step (c, v))
      right c v low inside = ap (λ n. get_or (arrived mode first first hops).bags (c * n + v) []) (sym (nodes_arrived mode first hops first)) ∙ cell c v low inside

-- one more of a step's sends
pub arrived_next : (how mode_is : Mode) (before now next : StoreValue) (hops : List Hop) (i : ℕ) (d : Hop) → i < length hops → now ≡ arrived how before before (take i hops) → mode_is ≡ how
    → next ≡ with_bag now (get_or hops i d).chunk (get_or hops i d).to (received mode_is (bag_in now (get_or hops i d).chunk (get_or hops i d).to) (bag_in before (get_or hops i d).chunk (get_or hops i d).from))
    → next ≡ arrived how before before (take (i + 1) hops)
arrived_next how mode_is before now next hops i d inside so_far same more =
    let h : Hop = get_or hops i d in
    more ∙ (λ j. arrive (same j) before (so_far j) h)
    ∙ sym (ap (arrived how before before) (take_more hops i d inside) ∙ arrived_more how before (take i hops) before h)

-- each is in range
pub hop_in_range : (chunks nodes step : ℕ) (s : ScheduleValue) (hops : List Hop) (i : ℕ) (d : Hop) → IsInRange chunks nodes s → hops ≡ filter (λ h. eqb h.step step) s.sends → i < length hops → is_hop_below chunks nodes (get_or hops i d) ≡ true
hop_in_range chunks nodes step s hops i d range is inside =
    All-same (λ h. is_hop_below chunks nodes h ≡ true) hops _ is (All-filter (λ h. eqb h.step step) (λ h. is_hop_below chunks nodes h ≡ true) s.sends range) i d inside

-- all of them
pub arrived_all : (before now : StoreValue) (s : ScheduleValue) (adding step : ℕ) (hops : List Hop) (i : ℕ) → IsSchedule s → IsInRange before.chunks before.nodes s → hops ≡ filter (λ h. eqb h.step step) s.sends → length hops ≤ i
    → now ≡ arrived (mode_at adding step) before before (take i hops) → (bags : Bags) → before ≡ stored before.chunks before.nodes bags → now ≡ stored before.chunks before.nodes (joined_step s.sends adding bags step)
arrived_all before now s adding step hops i valid range is past so_far bags from =
    let chunks : ℕ = before.chunks in
    let nodes : ℕ = before.nodes in
    so_far
    ∙ (λ j. arrived (mode_at adding step) (from j) (from j) ((take_all i hops past ∙ is) j))
    ∙ step_arrived chunks nodes bags s adding step valid range
