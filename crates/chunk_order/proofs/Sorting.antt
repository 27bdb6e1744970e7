-- Where a schedule solves, one solves in which chunks that are alike come in the order of their numbers: chunk after chunk, the one of its class that comes first takes its place.
use Rattle.std.proofs.{Common.{◌≡◌, ℕ, zero, suc, ◌+◌, ◌-◌, ◌<◌, ◌≤◌, Bool, true, ◌||◌, length, Some, None, refl, sym, ap, ◌∙◌, subst, ⊎_elim, arith, Option}, lemmas.Bool.{or_left, cases_eq, cases_lt, Decides.nat_tests}}
use Rattle.std.specs.List.{list_any}
use Rattle.schedule.{specs.{Links.TopologyValue, Placed.{PlacementValue, IsPlacement, holds}, Sends.{ScheduleValue, IsInRange}, Running.{after, brings}, Solving.Solvable}, proofs.{Placing.holds-placed, Stepping.{chunks-after, nodes-after}}}
use Rattle.chunk_order.specs.Alike.{is_alike, watch_node, Ordered}
use Rattle.chunk_order.proofs.{Alikeness.{alike_itself, alike_both, watch_alike, watch_below}, Exchanging.{exchanged, exchanges}, Renaming.{IsExchange, renamed, valid_renamed, range_renamed, after_renamed, solves_renamed}}
use Rattle.chunk_order.proofs.Firsts.{first_from, first_no_later, first_passes, first_alike, HasLeast, least_key}

-- ---- when a chunk comes to its watch node

-- what is held stays held
kept_on : (pre : PlacementValue) (s : ScheduleValue) (c n k more : ℕ) → c < pre.chunks → n < pre.nodes → holds (after pre s k) (c, n) ≡ true → holds (after pre s (k + more)) (c, n) ≡ true
kept_on pre s c n k zero cl nl held = grind arith
kept_on pre s c n k (suc more) cl nl held =
    let before = after pre s (k + more) in
    let up : k + suc more ≡ suc (k + more) = omega arith in
    ap (λ v. holds (after pre s v) (c, n)) up
    ∙ holds-placed before.chunks before.nodes (λ pair. holds before pair || list_any (brings before (k + more + 1) pair) s.sends) (c, n) (omega (arith, cl, chunks-after pre s (k + more))) (omega (arith, nl, nodes-after pre s (k + more)))
    ∙ or_left (holds before (c, n)) (list_any (brings before (k + more + 1) (c, n)) s.sends) (kept_on pre s c n k more cl nl held)

-- the step after which a node has a chunk
abbrev pub arrives : PlacementValue → ScheduleValue → ℕ → ℕ → ℕ
arrives pre s c node = first_from (λ k. holds (after pre s k) (c, node)) 0 (length s.rounds + 1)

abbrev pub comes : PlacementValue → ScheduleValue → ℕ → Option ℕ → ℕ
comes pre s c None = 0
comes pre s c (Some node) = arrives pre s c node

-- the step after which its watch node has it
abbrev pub turn : PlacementValue → PlacementValue → ScheduleValue → ℕ → ℕ
turn pre post s c = comes pre s c (watch_node pre post c)

-- where a number changes places with one that is no less, those below it stay
stays_below : (n b d : ℕ) → n ≤ b → d < n → exchanged n b d ≡ d
stays_below n b d up low = grind (arith, nat_tests)

-- what comes no later is there where the other is
earlier_is_there : (pre : PlacementValue) (s : ScheduleValue) (c d node step : ℕ) → c < pre.chunks → node < pre.nodes → arrives pre s c node ≤ arrives pre s d node → step ≤ length s.rounds → holds (after pre s step) (d, node) ≡ true → holds (after pre s step) (c, node) ≡ true
earlier_is_there pre s c d node step cl nl earlier low held =
    let p : ℕ → Bool = λ k. holds (after pre s k) (c, node) in
    let came : arrives pre s d node ≤ step = first_no_later (λ k. holds (after pre s k) (d, node)) 0 (length s.rounds + 1) step (omega arith) (omega (arith, low)) held in
    let k : ℕ = arrives pre s c node in
    let then : holds (after pre s k) (c, node) ≡ true = first_passes p 0 (length s.rounds + 1) (omega (arith, earlier, came, low)) in
    let up : k + (step - k) ≡ step = omega (arith, earlier, came) in
    subst (λ v. holds (after pre s v) (c, node) ≡ true) up (kept_on pre s c node k (step - k) cl nl then)

module _ (t : TopologyValue) (pre post : PlacementValue) (steps rounds : ℕ) (placed : IsPlacement post) (chunks : post.chunks ≡ pre.chunks) (nodes : post.nodes ≡ pre.nodes) where
  -- a chunk comes when the one whose name it has came
  turn_renamed : (f : ℕ → ℕ) → IsExchange pre post f → (s : ScheduleValue) → IsInRange pre.chunks pre.nodes s → (c : ℕ) → c < pre.chunks → turn pre post (renamed f s) c ≡ turn pre post s (f c)
  turn_renamed f exchange s range c cl =
      at (watch_node pre post c) refl ∙ ap (comes pre s (f c)) (watch_alike pre post c (f c) nodes (exchange.alike c))
    where
      at : (w : Option ℕ) → watch_node pre post c ≡ w → comes pre (renamed f s) c w ≡ comes pre s (f c) w
      at None is = refl
      at (Some node) is =
          first_alike (λ k. holds (after pre (renamed f s) k) (c, node)) (λ k. holds (after pre s k) (f c, node)) 0 (length s.rounds + 1)
          (λ k. after_renamed pre post f exchange s range k c node cl (omega (arith, watch_below pre post c node is, nodes)))

  -- ---- chunk after chunk

  -- the schedule with the names exchanged solves too
  abbrev exchanged_solves : (f : ℕ → ℕ) → IsExchange pre post f → Solvable t pre post steps rounds → Solvable t pre post steps rounds
  exchanged_solves f exchange some = record {
    schedule = renamed f some.schedule;
    valid = valid_renamed pre post f exchange some.schedule some.valid;
    in_range = range_renamed pre post f exchange some.schedule some.in_range;
    solves = solves_renamed pre post f exchange t some.schedule steps rounds placed chunks nodes some.in_range some.solves;
  }

  -- each of the chunks below one comes no later than those above it that are alike
  abbrev InTurn : ScheduleValue → ℕ → Type 0
  InTurn s n = (c d : ℕ) → c < n → c < d → d < pre.chunks → is_alike pre post c d ≡ true → turn pre post s c ≤ turn pre post s d

  record SolvesInTurn (n : ℕ) : Type 0 where
    some : Solvable t pre post steps rounds
    in_turn : InTurn some.schedule n

  one_more : (n : ℕ) → n < pre.chunks → SolvesInTurn n → SolvesInTurn (suc n)
  one_more n nl old =
      let s : ScheduleValue = old.some.schedule in
      let size : ℕ = pre.chunks - n - 1 in
      let first : HasLeast (is_alike pre post n) (turn pre post s) n (suc size) = least_key (is_alike pre post n) (turn pre post s) n size (alike_itself pre post n) in
      let b : ℕ = first.number in
      let bl : b < pre.chunks = omega (arith, first.to, nl) in
      let f : ℕ → ℕ = exchanged n b in
      let exchange : IsExchange pre post f = exchanges pre post n b nl bl first.passes in
      let turns : (c : ℕ) → c < pre.chunks → turn pre post (renamed f s) c ≡ turn pre post s (f c) = turn_renamed f exchange s old.some.in_range in
      let now : InTurn (renamed f s) (suc n) = λ c d cl less dl alike.
      let cc_low : c < pre.chunks = omega (arith, less, dl) in
      let to : f d < pre.chunks = exchange.keeps d dl in
      let still : is_alike pre post c (f d) ≡ true = alike_both pre post c d (f d) alike (exchange.alike d) in
      let above : n ≤ d → n ≤ f d = λ up. grind (arith, nat_tests, first.from, up) in
      ⊎_elim
      (λ (here : c ≡ n).
      let mine : f c ≡ b = grind (arith, nat_tests, here) in
      let least : turn pre post s b ≤ turn pre post s (f d) = first.least (f d) (above (omega (arith, here, less))) (omega (arith, to, nl)) (ap (λ x. is_alike pre post x (f d)) (sym here) ∙ still) in
      omega (arith, turns c cc_low, turns d dl, ap (turn pre post s) mine, least))
      (λ (other : c ≡ n → ⊥).
      let low : c < n = omega (arith, cl, other) in
      let mine : f c ≡ c = stays_below n b c first.from low in
      let past : c < f d = ⊎_elim (λ (small : d < n). omega (arith, stays_below n b d first.from small, less)) (λ (large : n ≤ d). omega (arith, above large, low)) (cases_lt d n) in
      let before : turn pre post s c ≤ turn pre post s (f d) = old.in_turn c (f d) low past to still in
      omega (arith, turns c cc_low, turns d dl, ap (turn pre post s) mine, before))
      (cases_eq c n) in
      record { some = exchanged_solves f exchange old.some; in_turn = now }

  all_in_turn : (n : ℕ) → n ≤ pre.chunks → Solvable t pre post steps rounds → SolvesInTurn n
  all_in_turn zero low some = record { some = some; in_turn = λ c d cl less dl alike. absurd (omega (arith, cl)) }
  all_in_turn (suc n) low some = one_more n (omega (arith, low)) (all_in_turn n (omega (arith, low)) some)

  in_turn_is_ordered : (s : ScheduleValue) → InTurn s pre.chunks → Ordered pre post s
  in_turn_is_ordered s in_turn c d node step less dl alike watch low held =
      let cl : c < pre.chunks = omega (arith, less, dl) in
      let nl : node < pre.nodes = omega (arith, watch_below pre post c node watch, nodes) in
      let also : watch_node pre post d ≡ Some node = sym (watch_alike pre post c d nodes alike) ∙ watch in
      let first : turn pre post s c ≡ arrives pre s c node = ap (comes pre s c) watch in
      let second : turn pre post s d ≡ arrives pre s d node = ap (comes pre s d) also in
      earlier_is_there pre s c d node step cl nl (omega (arith, first, second, in_turn c d cl less dl alike)) low held

  -- ---- the whole

  pub record SolvesOrdered : Type 0 where
    pub some : Solvable t pre post steps rounds
    pub ordered : Ordered pre post some.schedule

  pub reordered : Solvable t pre post steps rounds → SolvesOrdered
  reordered some =
      let all = all_in_turn pre.chunks (omega arith) some in
      record { some = all.some; ordered = in_turn_is_ordered all.some.schedule all.in_turn }
