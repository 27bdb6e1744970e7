-- The usable links ascend, and so do the sends that an assignment says.
use Rattle.std.proofs.{Common.{◌≡◌, ℕ, ◌<◌, Bool, true, false, List, [], ◌∷◌, map, length, get_or, refl, sym, ap, ◌∙◌, subst, ◌⊎◌, inl, inr, ⊎_elim, arith, if◌then◌else◌, flat_map, All, AllPairs}, lemmas.List.Elements.{All-nil, All-cons}}
use Rattle.std.{proofs.lemmas.{List.{Folds.list_any_at, Kept.AllPairs-filter}, Bool.{and_from, or_left, or_right, lt-ltb, eq-eqb, cases_lt, Decides.nat_tests}}, specs.List.{enumerate_from, list_any, range_with_len, position_or_len}}
use Rattle.list_laws.proofs.Pairs.{no_pairs}
use Rattle.schedule.specs.{declared.hop.Hop.Hop, Links.{TopologyValue, is_usable, usable_links}, Placed.{all_pairs, same_pair}, Sends.{hop_before, link_of}}
use Rattle.schedule.proofs.{Placing.{pair_is, pair_itself}, HopOrder.same_hop, Verdicts.sends_one_way}
use Rattle.cnf_formula.specs.Literals.{is_true}
use Rattle.send_encoding.specs.{Variables.{SendMapValue, steps_of, sent}, Sent.{hop_over, sends_of}}
use Rattle.send_encoding.proofs.{Everywhere.{in_map, in_flat, place_below}, Members.passes_at, Orders.{one_pairs, flat_pairs, map_pairs, range_pairs, numbered_pairs}}

-- by the first number, and then the second
abbrev pub LinkBefore : ℕ × ℕ → ℕ × ℕ → Type 0
LinkBefore a b = (a.0 < b.0) ⊎ ((a.0 ≡ b.0) × (a.1 < b.1))

never_before_itself : (a b : ℕ × ℕ) → LinkBefore a b → a ≡ b → ⊥
never_before_itself a b before same = grind arith

all_pairs_ascend : (rows columns : ℕ) → AllPairs LinkBefore (all_pairs rows columns)
all_pairs_ascend rows columns =
    let row : ℕ → List (ℕ × ℕ) = λ c. map (λ n. (c, n)) (range_with_len 0 columns) in
    flat_pairs (λ i j. i < j) LinkBefore (λ c p. p.0 ≡ c) row
    (λ c. map_pairs (λ i j. i < j) LinkBefore (λ n. (c, n)) (λ i j less. inr (refl, less)) (range_with_len 0 columns) (range_pairs 0 columns))
    (λ c. in_map (λ p. p.0 ≡ c) (λ n. Unit {0}) (λ n. (c, n)) (range_with_len 0 columns) (λ n _. refl) (λ i d low. tt))
    (λ c e a b less pa pb. inl (omega (arith, less, pa, pb))) (range_with_len 0 rows) (range_pairs 0 rows)

pub links_ascend : (t : TopologyValue) → AllPairs LinkBefore (usable_links t)
links_ascend t = AllPairs-filter LinkBefore (is_usable t) (all_pairs t.nodes t.nodes) (all_pairs_ascend t.nodes t.nodes)

-- a link of an ascending list has one place
pub place_is : (links : List (ℕ × ℕ)) → AllPairs LinkBefore links → (link : ℕ × ℕ) (e : ℕ) → e < length links → link ≡ get_or links e (0, 0) → position_or_len (same_pair link) links ≡ e
place_is links ascend link e low is =
    let here : same_pair link (get_or links e (0, 0)) ≡ true = ap (same_pair link) (sym is) ∙ pair_itself link in
    let listed : list_any (same_pair link) links ≡ true = list_any_at (same_pair link) links e (0, 0) low here in
    let p : ℕ = position_or_len (same_pair link) links in
    let few : p < length links = place_below (same_pair link) links listed in
    let at : link ≡ get_or links p (0, 0) = pair_is link (get_or links p (0, 0)) (passes_at (same_pair link) links (0, 0) listed) in
    let same : get_or links p (0, 0) ≡ get_or links e (0, 0) = sym at ∙ is in
    ⊎_elim (λ less. absurd (never_before_itself (get_or links p (0, 0)) (get_or links e (0, 0)) (ascend p e (0, 0) less low) same))
    (λ not_less. ⊎_elim (λ more. absurd (never_before_itself (get_or links e (0, 0)) (get_or links p (0, 0)) (ascend e p (0, 0) more few) (sym same)))
    (λ not_more. omega (arith, not_less, not_more)) (cases_lt e p)) (cases_lt p e)

-- ---- sends

by_step : (a b : Hop) → a.step < b.step → hop_before a b ≡ true
by_step a b less = or_left _ _ (lt-ltb a.step b.step less)

by_chunk : (a b : Hop) → a.step ≡ b.step → a.chunk < b.chunk → hop_before a b ≡ true
by_chunk a b step less = or_right _ _ (and_from _ _ (eq-eqb a.step b.step step) (or_left _ _ (lt-ltb a.chunk b.chunk less)))

by_link : (a b : Hop) → a.step ≡ b.step → a.chunk ≡ b.chunk → LinkBefore (link_of a) (link_of b) → hop_before a b ≡ true
by_link a b step chunk before = grind (arith, nat_tests)

-- no send stands before one of the same numbers
pub never_twice : (a b : Hop) → hop_before a b ≡ true → a.step ≡ b.step → a.chunk ≡ b.chunk → a.from ≡ b.from → a.to ≡ b.to → ⊥
never_twice a b h step chunk from to = grind (arith, nat_tests, same_hop, sends_one_way)

module _ (m : SendMapValue) (values : List Bool) (ascend : AllPairs LinkBefore m.links) where
  abbrev Before : Hop → Hop → Type 0
  Before a b = hop_before a b ≡ true

  abbrev hop : ℕ → ℕ → ℕ × (ℕ × ℕ) → Hop
  hop k c z = record { chunk = c; from = z.1.0; to = z.1.1; step = k }

  abbrev of_chunk : ℕ → ℕ → List Hop
  of_chunk k c = flat_map (hop_over m values k c) (enumerate_from 0 m.links)

  abbrev of_step : ℕ → List Hop
  of_step k = flat_map (of_chunk k) (range_with_len 0 m.chunks)

  if_pairs : (h : Hop) (b : Bool) → AllPairs Before (if b then h ∷ [] else [])
  if_pairs h true = one_pairs Before h
  if_pairs h false = no_pairs Before

  if_is : (P : Hop → Type 0) (h : Hop) → P h → (b : Bool) → All P (if b then h ∷ [] else [])
  if_is P h at true = All-cons P h [] at (All-nil P)
  if_is P h at false = All-nil P

  chunk_all : (P : Hop → Type 0) (k c : ℕ) → ((z : ℕ × (ℕ × ℕ)) → P (hop k c z)) → All P (of_chunk k c)
  chunk_all P k c h =
      in_flat P (λ z. Unit {0}) (hop_over m values k c) (enumerate_from 0 m.links) (λ z _. if_is P (hop k c z) (h z) (is_true values (sent m c z.0 k))) (λ i d low. tt)

  chunk_ascends : (k c : ℕ) → AllPairs Before (of_chunk k c)
  chunk_ascends k c =
      flat_pairs (λ y z. LinkBefore y.1 z.1) Before (λ z h. h ≡ hop k c z) (hop_over m values k c) (λ z. if_pairs (hop k c z) (is_true values (sent m c z.0 k)))
      (λ z. if_is (λ h. h ≡ hop k c z) (hop k c z) refl (is_true values (sent m c z.0 k)))
      (λ y z a b before pa pb.
      by_link a b (ap (λ (h : Hop). h.step) pa ∙ sym (ap (λ (h : Hop). h.step) pb)) (ap (λ (h : Hop). h.chunk) pa ∙ sym (ap (λ (h : Hop). h.chunk) pb))
      (subst (λ l. LinkBefore l (link_of b)) (sym (ap link_of pa)) (subst (LinkBefore y.1) (sym (ap link_of pb)) before)))
      (enumerate_from 0 m.links) (numbered_pairs LinkBefore 0 m.links ascend)

  step_ascends : (k : ℕ) → AllPairs Before (of_step k)
  step_ascends k =
      flat_pairs (λ i j. i < j) Before (λ c h. (h.step ≡ k) × (h.chunk ≡ c)) (of_chunk k) (chunk_ascends k)
      (λ c. chunk_all (λ h. (h.step ≡ k) × (h.chunk ≡ c)) k c (λ z. (refl, refl)))
      (λ c d a b less pa pb. by_chunk a b (pa.0 ∙ sym pb.0) (omega (arith, less, pa.1, pb.1)))
      (range_with_len 0 m.chunks) (range_pairs 0 m.chunks)

  pub sends_ascend : AllPairs Before (sends_of m values)
  sends_ascend =
      flat_pairs (λ i j. i < j) Before (λ k h. h.step ≡ k) of_step step_ascends
      (λ k. in_flat (λ h. h.step ≡ k) (λ c. Unit {0}) (of_chunk k) (range_with_len 0 m.chunks) (λ c _. chunk_all (λ h. h.step ≡ k) k c (λ z. refl)) (λ i d low. tt))
      (λ k l a b less pa pb. by_step a b (omega (arith, less, pa, pb)))
      (steps_of m) (range_pairs 1 m.steps)
