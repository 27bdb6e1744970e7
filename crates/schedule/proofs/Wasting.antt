-- A schedule wastes no send where each send moves its chunk and no node is sent a chunk twice.
use Rattle.std.proofs.Common.{◌≡◌, ℕ, ◌+◌, ◌-◌, ◌<◌, Bool, true, false, ◌&&◌, ◌||◌, not, ltb, List, length, get_or, take, sym, ap, ◌∙◌, subst, arith, AllPairs, Decides}
use Rattle.std.proofs.lemmas.{Bool.{false≢true, and_parts, and_from, not-true, not_from_false, false_from_ne_true, ltb-true}, List.{take_more, get_or-take, get_or_default, length-take, Folds.{list_any_at, list_any_more, list_any_none}}}
use Rattle.std.{proofs.{Math.Bool.or_comm, lemmas.List.{FromFn.{get_or-map-range_with_len, length-map-range_with_len}, Quantifiers.all_pairs_push, Sums.{AllPass-from_list_all, list_all-from_AllPass}}}, specs.List.{list_any, list_all}}
use Rattle.schedule.specs.{declared.hop.Hop.Hop, Placed.{PlacementValue, holds, same_pair, with_pair}, Running.{after, run_of}, Solving.{Tight, moves}, Sends.{ScheduleValue, IsSchedule, IsInRange, is_hop_below}}
use Rattle.schedule.proofs.{Placing.holds-placed, Stepping.{chunks-after, nodes-after}}

abbrev pub Once : List Hop → Type 0
Once sends = AllPairs (λ a b. same_pair (a.chunk, a.to) (b.chunk, b.to) ≡ false) sends

abbrev pub to_pair : Hop → ℕ × ℕ
to_pair h = (h.chunk, h.to)

module _ (pre : PlacementValue) (s : ScheduleValue) where
  abbrev before : Hop → PlacementValue
  before h = after pre s (h.step - 1)

  abbrev move_of : Hop → Bool
  move_of h = moves (before h) h

  halves : (h : Hop) → move_of h ≡ true → (holds (before h) (h.chunk, h.from) ≡ true) × (not (holds (before h) (to_pair h)) ≡ true)
  halves h e = and_parts (holds (before h) (h.chunk, h.from)) (not (holds (before h) (to_pair h))) e

  pub tight_moves : Tight pre s → list_all move_of s.sends ≡ true
  tight_moves tight = list_all-from_AllPass move_of s.sends (λ k d low.
      let h = get_or s.sends k d in
      and_from (holds (before h) (h.chunk, h.from)) (not (holds (before h) (to_pair h))) (tight.sender k d low) (not_from_false (holds (before h) (to_pair h)) (tight.receiver k d low)))

  pub tight_decided : (move once : Bool) → move ≡ list_all (λ h. moves (after pre s (h.step - 1)) h) s.sends → Decides once (Once s.sends) → Decides (move && once) (Tight pre s)
  tight_decided move once is decides = (
    λ e.
        let parts = and_parts move once e in
        let all = AllPass-from_list_all move_of s.sends (sym is ∙ parts.0) in
        record {
          sender = λ k d low. (halves (get_or s.sends k d) (all k d low)).0;
          receiver = λ k d low. not-true (holds (before (get_or s.sends k d)) (to_pair (get_or s.sends k d))) (halves (get_or s.sends k d) (all k d low)).1;
          once = decides.0 parts.1;
        },
    λ tight. and_from move once (is ∙ tight_moves tight) (decides.1 tight.once),
  )

-- ---- what is received

in_range : (chunks nodes : ℕ) (h : Hop) → is_hop_below chunks nodes h ≡ true → (h.chunk < chunks) × (h.to < nodes)
in_range chunks nodes h below =
    let first = and_parts (ltb h.chunk chunks) (ltb h.from nodes && ltb h.to nodes) below in
    (ltb-true h.chunk chunks first.0, ltb-true h.to nodes (and_parts (ltb h.from nodes) (ltb h.to nodes) first.1).1)

-- the table has the pairs that so many sends bring
pub record HasReceived (chunks nodes : ℕ) (table : PlacementValue) (sends : List Hop) : Type 0 where
  pub chunks_are : table.chunks ≡ chunks
  pub nodes_are : table.nodes ≡ nodes
  pub has : (pair : ℕ × ℕ) → pair.0 < chunks → pair.1 < nodes → holds table pair ≡ list_any (λ h. same_pair (to_pair h) pair) sends
  pub once : Once sends

pub received_more : (chunks nodes : ℕ) (before table : PlacementValue) (sends : List Hop) (i : ℕ) (d : Hop) → i < length sends → is_hop_below chunks nodes (get_or sends i d) ≡ true
    → HasReceived chunks nodes before (take i sends) → holds before (to_pair (get_or sends i d)) ≡ false → table ≡ with_pair before (to_pair (get_or sends i d)) → HasReceived chunks nodes table (take (i + 1) sends)
received_more chunks nodes before table sends i d low below has fresh is =
    let h = get_or sends i d in
    let at = in_range chunks nodes h below in
    let none : list_any (λ o. same_pair (to_pair o) (to_pair h)) (take i sends) ≡ false = sym (has.has (to_pair h) at.0 at.1) ∙ fresh in
    record {
      chunks_are = ap (λ (t : PlacementValue). t.chunks) is ∙ has.chunks_are;
      nodes_are = ap (λ (t : PlacementValue). t.nodes) is ∙ has.nodes_are;
      has = λ pair chunk node.
          ap (λ t. holds t pair) is
          ∙ holds-placed before.chunks before.nodes (λ other. same_pair (to_pair h) other || holds before other) pair (omega (arith, chunk, has.chunks_are)) (omega (arith, node, has.nodes_are))
          ∙ ap (λ b. same_pair (to_pair h) pair || b) (has.has pair chunk node)
          ∙ or_comm (same_pair (to_pair h) pair) (list_any (λ o. same_pair (to_pair o) pair) (take i sends))
          ∙ sym (list_any_more (λ o. same_pair (to_pair o) pair) sends i d low);
      once = subst Once (sym (take_more sends i d low)) (all_pairs_push (λ a b. same_pair (to_pair a) (to_pair b) ≡ false) (take i sends) h has.once
          (λ k e few. false_from_ne_true (same_pair (to_pair (get_or (take i sends) k e)) (to_pair h)) (λ t. false≢true (sym none ∙ list_any_at (λ o. same_pair (to_pair o) (to_pair h)) (take i sends) k e few t))));
    }

pub received_twice : (chunks nodes : ℕ) (table : PlacementValue) (sends : List Hop) (i : ℕ) (d : Hop) → i < length sends → is_hop_below chunks nodes (get_or sends i d) ≡ true
    → HasReceived chunks nodes table (take i sends) → holds table (to_pair (get_or sends i d)) ≡ true → Once sends → ⊥
received_twice chunks nodes table sends i d low below has twice once =
    let h = get_or sends i d in
    let at = in_range chunks nodes h below in
    let none : list_any (λ o. same_pair (to_pair o) (to_pair h)) (take i sends) ≡ false =
    list_any_none (λ o. same_pair (to_pair o) (to_pair h)) (take i sends) (λ k e few.
    let less : k < i = omega (arith, few, length-take i sends) in
    ap (λ o. same_pair (to_pair o) (to_pair h)) (get_or-take i sends k e less ∙ get_or_default sends k e d (omega (arith, less, low))) ∙ once k i d less low) in
    false≢true (sym none ∙ sym (has.has (to_pair h) at.0 at.1) ∙ twice)

-- ---- each send in the run

module _ (pre : PlacementValue) (s : ScheduleValue) (run : List PlacementValue) (sends : List Hop) (is_run : run ≡ run_of pre s) (are : sends ≡ s.sends) (ok : IsSchedule s) (range : IsInRange pre.chunks pre.nodes s)
    (i : ℕ) (d : Hop) (low : i < length sends) where
  abbrev hop : Hop
  hop = get_or sends i d

  abbrev within : i < length s.sends
  within = omega (arith, low, ap length are)

  same_hop : hop ≡ get_or s.sends i d
  same_hop = ap (λ hs. get_or hs i d) are

  hop_step : hop.step - 1 < length s.rounds + 1
  hop_step = omega (arith, (ok.steps i d within).to, ap (λ (h : Hop). h.step) same_hop)

  pub in_run : hop.step - 1 < length run
  in_run = omega (arith, hop_step, ap length is_run, length-map-range_with_len (after pre s) 0 (length s.rounds + 1))

  pub before_is : (e : PlacementValue) → get_or run (hop.step - 1) e ≡ after pre s (hop.step - 1)
  before_is e = ap (λ r. get_or r (hop.step - 1) e) is_run ∙ get_or-map-range_with_len (after pre s) 0 (length s.rounds + 1) (hop.step - 1) (hop.step - 1) e hop_step (omega arith)

  pub hop_in_range : is_hop_below (after pre s (hop.step - 1)).chunks (after pre s (hop.step - 1)).nodes hop ≡ true
  hop_in_range =
      ap (λ n. is_hop_below n (after pre s (hop.step - 1)).nodes hop) (chunks-after pre s (hop.step - 1)) ∙ ap (λ n. is_hop_below pre.chunks n hop) (nodes-after pre s (hop.step - 1))
      ∙ ap (is_hop_below pre.chunks pre.nodes) same_hop ∙ range i d within

  -- whether the send at hand moves its chunk, as a table that is read from the run says
  pub move_is : (held : PlacementValue) (moved : Bool) → held ≡ get_or run (hop.step - 1) held → moved ≡ moves held hop → moved ≡ move_of pre s hop
  move_is held moved read is = is ∙ ap (λ p. moves p hop) (read ∙ before_is held)
