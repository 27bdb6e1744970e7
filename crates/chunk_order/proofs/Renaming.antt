-- Chunks that are renamed: a schedule that solves still does, where each chunk gets the name of one that is alike.
use Rattle.std.proofs.Common.{◌≡◌, ℕ, zero, suc, ◌+◌, ◌<◌, ◌≤◌, ◌*◌, Bool, true, false, ◌||◌, cond, eqb, ltb, List, [], ◌∷◌, length, get_or, map, refl, sym, ap, ◌∙◌, arith, ◌≢◌, ◌&&◌}
use Rattle.std.proofs.lemmas.{Bool.{and_parts, Decides.nat_tests, eqb-true, eq-eqb, ltb-true}, List.{Folds.list_any_at, Elements.{All-from_recursion, recursion_from_All}, Sums.sum_by-cons}}
use Rattle.std.{proofs.lemmas.List.Sorted.{sum_by-IsPermutation, list_any-IsPermutation}, specs.List.list_any}
use Rattle.list_laws.proofs.{Tests.same_test, Each.each_map}
use Rattle.schedule.specs.{declared.hop.Hop.Hop, Links.{GroupValue, TopologyValue, has_link, is_usable}, Placed.{PlacementValue, IsPlacement, holds, same_pair}}
use Rattle.schedule.specs.{Sends.{ScheduleValue, IsSchedule, IsInRange, IsStep, hop_before, is_hop_below, link_of}, Running.{after, brings}, Solving.Solves, Fitting.{Fits, load, rounds_at}, Inverse.{in_order}}
use Rattle.schedule.proofs.{First.InOrder-from_pairs, HopOrder.{Apart, same_hop, each_in_order, in_order_permutes, ascends, ascending_apart}, Inverting.pairs_from_InOrder, Placing.{pair_is, pair_itself, holds-placed}, Stepping.{chunks-after, nodes-after}}
use Rattle.send_encoding.proofs.{Members.member, Complete.any_alike, Tightened.pairs_below}
use Rattle.chunk_order.{specs.Alike.is_alike, proofs.Alikeness.{alike_before, alike_after}}

-- ---- a send and a schedule with other names for the chunks

abbrev pub renamed_hop : (ℕ → ℕ) → Hop → Hop
renamed_hop f h = record { chunk = f h.chunk; from = h.from; to = h.to; step = h.step }

abbrev pub renamed : (ℕ → ℕ) → ScheduleValue → ScheduleValue
renamed f s = record { rounds = s.rounds; sends = in_order (map (renamed_hop f) s.sends) }

-- a renaming that undoes itself, keeps the range, and gives each chunk the name of one that is alike
pub record IsExchange (pre post : PlacementValue) (f : ℕ → ℕ) : Type 0 where
  pub back : (c : ℕ) → f (f c) ≡ c
  pub keeps : (c : ℕ) → c < pre.chunks → f c < pre.chunks
  pub alike : (c : ℕ) → is_alike pre post c (f c) ≡ true

-- who passes a test of steps and links does so under each name
count_renamed : (f : ℕ → ℕ) (group : GroupValue) (step : ℕ) (hops : List Hop) → load group step (map (renamed_hop f) hops) ≡ load group step hops
count_renamed f group step [] = refl
count_renamed f group step (h ∷ hops) = omega (arith, sum_by-cons (λ x. cond (eqb x.step step && has_link group (link_of x)) 1 0) (renamed_hop f h) (map (renamed_hop f) hops), sum_by-cons (λ x. cond (eqb x.step step && has_link group (link_of x)) 1 0) h hops, count_renamed f group step hops)

module _ (pre post : PlacementValue) (f : ℕ → ℕ) (exchange : IsExchange pre post f) where
  one_name : (a b : Hop) → renamed_hop f a ≡ renamed_hop f b → a ≡ b
  one_name a b same =
      same_hop a b (sym (exchange.back a.chunk) ∙ ap f (ap (λ (h : Hop). h.chunk) same) ∙ exchange.back b.chunk) (ap (λ (h : Hop). h.from) same) (ap (λ (h : Hop). h.to) same) (ap (λ (h : Hop). h.step) same)

  apart_names : (hops : List Hop) → Apart hops → Apart (map (renamed_hop f) hops)
  apart_names [] apart = tt
  apart_names (h ∷ hops) apart = (each_map (λ o. h ≢ o) (λ o. renamed_hop f h ≢ o) (renamed_hop f) (λ o differs same. differs (one_name h o same)) hops apart.0, apart_names hops apart.1)

  pub valid_renamed : (s : ScheduleValue) → IsSchedule s → IsSchedule (renamed f s)
  valid_renamed s valid =
      let P : Hop → Type 0 = λ h. IsStep (length s.rounds) h.step in
      let hops = map (renamed_hop f) s.sends in
      record {
        some = valid.some;
        few = valid.few;
        rounds = valid.rounds;
        steps = All-from_recursion P (in_order hops) (each_in_order P hops (each_map P P (renamed_hop f) (λ h it. it) s.sends (recursion_from_All P s.sends valid.steps)));
        ascending = pairs_from_InOrder (in_order hops) (ascends hops (apart_names s.sends (ascending_apart s.sends (InOrder-from_pairs hop_before s.sends valid.ascending))));
      }

  below_renamed : (h : Hop) → is_hop_below pre.chunks pre.nodes h ≡ true → is_hop_below pre.chunks pre.nodes (renamed_hop f h) ≡ true
  below_renamed h it = grind (arith, nat_tests, exchange.keeps h.chunk)

  pub range_renamed : (s : ScheduleValue) → IsInRange pre.chunks pre.nodes s → IsInRange pre.chunks pre.nodes (renamed f s)
  range_renamed s range =
      let P : Hop → Type 0 = λ h. is_hop_below pre.chunks pre.nodes h ≡ true in
      let hops = map (renamed_hop f) s.sends in
      All-from_recursion P (in_order hops) (each_in_order P hops (each_map P P (renamed_hop f) below_renamed s.sends (recursion_from_All P s.sends range)))

  pub fits_renamed : (t : TopologyValue) (s : ScheduleValue) → Fits t s → Fits t (renamed f s)
  fits_renamed t s fits =
      let P : Hop → Type 0 = λ h. is_usable t (link_of h) ≡ true in
      let hops = map (renamed_hop f) s.sends in
      record {
        usable = All-from_recursion P (in_order hops) (each_in_order P hops (each_map P P (renamed_hop f) (λ h it. it) s.sends (recursion_from_All P s.sends fits.usable)));
        within = λ step from to i d low.
            let group : GroupValue = get_or t.groups i d in
            let same : load group step (in_order hops) ≡ load group step s.sends = sum_by-IsPermutation (λ h. cond (eqb h.step step && has_link group (link_of h)) 1 0) hops (in_order hops) (in_order_permutes hops) ∙ count_renamed f group step s.sends in
            let old : load group step s.sends ≤ group.width * rounds_at s step = fits.within step from to i d low in
            omega (arith, same, old);
      }

  -- ---- the run

  one_place : (x c : ℕ) → eqb (f x) c ≡ eqb x (f c)
  one_place x c = same_test (eqb (f x) c) (eqb x (f c))
      (λ h. eq-eqb x (f c) (sym (exchange.back x) ∙ ap f (eqb-true (f x) c h)))
      (λ h. eq-eqb (f x) c (ap f (eqb-true x (f c) h) ∙ exchange.back c))

  -- a chunk is held where the one whose name it has was
  pub after_renamed : (s : ScheduleValue) → IsInRange pre.chunks pre.nodes s → (k c n : ℕ) → c < pre.chunks → n < pre.nodes → holds (after pre (renamed f s) k) (c, n) ≡ holds (after pre s k) (f c, n)
  after_renamed s range zero c n cl nl = alike_before pre post c (f c) n (exchange.alike c) nl
  after_renamed s range (suc k) c n cl nl =
      let new = after pre (renamed f s) k in
      let old = after pre s k in
      let hops = map (renamed_hop f) s.sends in
      let p : Hop → Bool = brings new (k + 1) (c, n) in
      let q : Hop → Bool = brings old (k + 1) (f c, n) in
      let here : holds new (c, n) ≡ holds old (f c, n) = after_renamed s range k c n cl nl in
      let same : (h : Hop) → is_hop_below pre.chunks pre.nodes h ≡ true → p (renamed_hop f h) ≡ q h = λ h below.
      let parts = and_parts (ltb h.chunk pre.chunks) (ltb h.from pre.nodes && ltb h.to pre.nodes) below in
      let chunk : h.chunk < pre.chunks = ltb-true h.chunk pre.chunks parts.0 in
      let from : h.from < pre.nodes = ltb-true h.from pre.nodes (and_parts (ltb h.from pre.nodes) (ltb h.to pre.nodes) parts.1).0 in
      let held : holds new (f h.chunk, h.from) ≡ holds old (h.chunk, h.from) = after_renamed s range k (f h.chunk) h.from (exchange.keeps h.chunk chunk) from ∙ ap (λ x. holds old (x, h.from)) (exchange.back h.chunk) in
      ap (λ b. eqb h.step (k + 1) && ((b && eqb h.to n) && holds new (f h.chunk, h.from))) (one_place h.chunk c)
      ∙ ap (λ b. eqb h.step (k + 1) && ((eqb h.chunk (f c) && eqb h.to n) && b)) held in
      let any : list_any p (in_order hops) ≡ list_any q s.sends = sym (list_any-IsPermutation p hops (in_order hops) (in_order_permutes hops)) ∙ any_alike p q (λ h. is_hop_below pre.chunks pre.nodes h ≡ true) (renamed_hop f) s.sends same range in
      holds-placed new.chunks new.nodes (λ pair. holds new pair || list_any (brings new (k + 1) pair) (in_order hops)) (c, n) (omega (arith, cl, chunks-after pre (renamed f s) k)) (omega (arith, nl, nodes-after pre (renamed f s) k))
      ∙ ap (λ b. b || list_any p (in_order hops)) here
      ∙ ap (λ b. holds old (f c, n) || b) any
      ∙ sym (holds-placed old.chunks old.nodes (λ pair. holds old pair || list_any (brings old (k + 1) pair) s.sends) (f c, n) (omega (arith, exchange.keeps c cl, chunks-after pre s k)) (omega (arith, nl, nodes-after pre s k)))

  -- ---- what is demanded

  pub solves_renamed : (t : TopologyValue) (s : ScheduleValue) (steps rounds : ℕ) → IsPlacement post → post.chunks ≡ pre.chunks → post.nodes ≡ pre.nodes → IsInRange pre.chunks pre.nodes s → Solves t pre post s steps rounds → Solves t pre post (renamed f s) steps rounds
  solves_renamed t s steps rounds placed chunks nodes range solves = record {
    steps_are = solves.steps_are;
    rounds_are = solves.rounds_are;
    fits = fits_renamed t s solves.fits;
    delivers = λ i d low.
        let pair = get_or post.pairs i d in
        let below = pairs_below post placed i d low in
        let wanted : holds post pair ≡ true = list_any_at (same_pair pair) post.pairs i d low (pair_itself pair) in
        let also : holds post (f pair.0, pair.1) ≡ true = sym (alike_after pre post pair.0 (f pair.0) pair.1 (exchange.alike pair.0) below.1) ∙ wanted in
        let found = member (same_pair (f pair.0, pair.1)) (λ pair. holds (after pre s (length s.rounds)) pair ≡ true) post.pairs solves.delivers also in
        let is : (f pair.0, pair.1) ≡ found.0 = pair_is (f pair.0, pair.1) found.0 found.1 in
        after_renamed s range (length s.rounds) pair.0 pair.1 (omega (arith, below.0, chunks)) (omega (arith, below.1, nodes))
        ∙ ap (holds (after pre s (length s.rounds))) is ∙ found.3;
  }
