-- Where tables move the chunks, a schedule that tells the sends in ascending order wastes none of them, and delivers.
use Rattle.std.proofs.{Common.{◌≡◌, ℕ, zero, suc, ◌+◌, ◌-◌, ◌<◌, ◌≤◌, Bool, true, false, cond, List, [], ◌∷◌, length, get_or, eqb, sym, ap, ◌∙◌, subst, ⊎_elim, arith, count_by, All, AllPairs}, lemmas.List.Elements.All-filter}
use Rattle.std.{proofs.lemmas.{List.{Folds.list_any_at, Sums.{sum_by-cons, get_or-le-sum_by}}, Bool.{false≢true, false_from_ne_true, cases_lt, eq-eqb, Decides.nat_tests}}, specs.List.enumerate_from}
use Rattle.schedule.specs.{declared.hop.Hop.Hop, Placed.{PlacementValue, IsPlacement, holds, same_pair, all_pairs}, Sends.{ScheduleValue, IsStep, hop_before}, Running.after, Solving.Tight}
use Rattle.schedule.proofs.{Placing.{IsBelow, pair_is, pair_itself, all_below}, Steps.steps_ordered, First.{Among, Contains-from_Among, among_kept}}
use Rattle.send_encoding.{specs.{Variables.{SendMapValue, links_into}, Moving.{IsLinkOf, JoinsNodes, Moves}, Telling.Tells}, proofs.{Everywhere.by_recursion, Clauses.link_listed, Running.run_is, Ascending.never_twice}}

some_counted : {X : Type 0} (p : X → Bool) (x : X) (xs : List X) → Among x xs → p x ≡ true → 1 ≤ count_by p xs
some_counted p x xs among t = grind (arith, nat_tests, Contains-from_Among, get_or-le-sum_by)

-- where a test counts at most one, two that pass are one
same_of_one : {X : Type 0} (p : X → Bool) (y z : X) (xs : List X) → count_by p xs ≤ 1 → Among y xs → Among z xs → p y ≡ true → p z ≡ true → y ≡ z
same_of_one p y z [] few ay az py pz = absurd ay
same_of_one {X = X} p y z (x ∷ xs) few ay az py pz =
    let cons = sum_by-cons (λ v. cond (p v) 1 0) x xs in
    let two : (v w : X) → x ≡ v → p v ≡ true → Among w xs → p w ≡ true → ⊥ =
    λ v w e t a u. omega (arith, few, cons ∙ ap (λ y. cond (p y) 1 0 + count_by p xs) e ∙ ap (λ b. cond b 1 0 + count_by p xs) t, some_counted p w xs a u) in
    ⊎_elim
    (λ (e : x ≡ y). ⊎_elim (λ (f : x ≡ z). sym e ∙ f) (λ (b : Among z xs). absurd (two y z e py b pz)) az)
    (λ (a : Among y xs). ⊎_elim (λ (f : x ≡ z). absurd (two z y f pz a py)) (λ (b : Among z xs). same_of_one p y z xs (omega (arith, few, cons)) a b py pz) az)
    ay

-- a placement's own pairs are in range
pub pairs_below : (p : PlacementValue) → IsPlacement p → All (IsBelow p.chunks p.nodes) p.pairs
pairs_below p ok =
    subst (λ (q : PlacementValue). All (IsBelow p.chunks p.nodes) q.pairs) (sym ok)
    (All-filter (holds p) (IsBelow p.chunks p.nodes) (all_pairs p.chunks p.nodes) (by_recursion (IsBelow p.chunks p.nodes) (all_pairs p.chunks p.nodes) (all_below p.chunks p.nodes)))

module _ (m : SendMapValue) (pre post : PlacementValue) (a x : ℕ → ℕ → ℕ → Bool) (s : ScheduleValue) (chunks : pre.chunks ≡ m.chunks) (nodes : pre.nodes ≡ m.nodes) (links : All (JoinsNodes m) m.links)
    (moves : Moves m pre post a x) (tells : Tells m x s.sends) (ascending : AllPairs (λ a b. hop_before a b ≡ true) s.sends) where
  run : (k c n : ℕ) → k ≤ m.steps → c < m.chunks → n < m.nodes → holds (after pre s k) (c, n) ≡ a c n k
  run = run_is m pre post a x s chunks nodes links moves tells

  sender_has : All (λ h. holds (after pre s (h.step - 1)) (h.chunk, h.from) ≡ true) s.sends
  sender_has = grind (arith, run)

  lacked : (i : ℕ) (d : Hop) → i < length s.sends → a (get_or s.sends i d).chunk (get_or s.sends i d).to ((get_or s.sends i d).step - 1) ≡ false
  lacked i d low = grind (arith, nat_tests)

  brought_it : (i : ℕ) (d : Hop) → i < length s.sends → a (get_or s.sends i d).chunk (get_or s.sends i d).to (get_or s.sends i d).step ≡ true
  brought_it i d low = grind (arith, nat_tests)

  to_below : (i : ℕ) (d : Hop) → i < length s.sends → (get_or s.sends i d).to < m.nodes
  to_below i d low = let it = tells.told i d low in omega (arith, ap (λ l. l.1) it.ends, it.is_link.to)

  receiver_lacks : All (λ h. holds (after pre s (h.step - 1)) (h.chunk, h.to) ≡ false) s.sends
  receiver_lacks = grind (arith, run, to_below, lacked)

  kept_on : (c n k j : ℕ) → c < m.chunks → n < m.nodes → k + j ≤ m.steps → a c n k ≡ true → a c n (k + j) ≡ true
  kept_on c n k zero cl nl le h = let same : k + zero ≡ k = omega arith in ap (a c n) same ∙ h
  kept_on c n k (suc j) cl nl le h = grind (arith, kept_on c n k j cl nl (omega (arith, le)) h)

  listed_into : (z : ℕ × (ℕ × ℕ)) (n : ℕ) → IsLinkOf m z → z.1.1 ≡ n → Among z (links_into m n)
  listed_into z n at node = among_kept (λ y. eqb y.1.1 n) z (enumerate_from 0 m.links) (link_listed m z at) (eq-eqb z.1.1 n node)

  -- two links that bring a chunk to a node at a step are one
  one_link : (c n k : ℕ) (y z : ℕ × (ℕ × ℕ)) → c < m.chunks → n < m.nodes → IsStep m.steps k → IsLinkOf m y → IsLinkOf m z → y.1.1 ≡ n → z.1.1 ≡ n → x c y.0 k ≡ true → x c z.0 k ≡ true → y.1 ≡ z.1
  one_link c n k y z cl nl step at_y at_z to_y to_z sent_y sent_z =
      ap (λ v. v.1) (same_of_one (λ v. x c v.0 k) y z (links_into m n) (moves.once c n k cl nl step) (listed_into y n at_y to_y) (listed_into z n at_z to_z) sent_y sent_z)

  never_received_twice : (i j : ℕ) (d : Hop) → i < j → j < length s.sends → (get_or s.sends i d).chunk ≡ (get_or s.sends j d).chunk → (get_or s.sends i d).to ≡ (get_or s.sends j d).to → ⊥
  never_received_twice i j d low few chunk to =
      let g = get_or s.sends i d in
      let h = get_or s.sends j d in
      let inside : i < length s.sends = omega (arith, low, few) in
      let ig = tells.told i d inside in
      let ih = tells.told j d few in
      let before = ascending i j d low few in
      let le : g.step ≤ h.step = steps_ordered g h before in
      ⊎_elim
      (λ less.
      let up : g.step + (h.step - 1 - g.step) ≡ h.step - 1 = omega (arith, less) in
      let here : a h.chunk h.to g.step ≡ true = ap (λ c. a c h.to g.step) (sym chunk) ∙ ap (λ n. a g.chunk n g.step) (sym to) ∙ brought_it i d inside in
      let still : a h.chunk h.to (h.step - 1) ≡ true = ap (a h.chunk h.to) (sym up) ∙ kept_on h.chunk h.to g.step (h.step - 1 - g.step) ih.chunk (to_below j d few) (omega (arith, up, ih.step.to)) here in
      false≢true (sym (lacked j d few) ∙ still))
      (λ no_less.
      let step : g.step ≡ h.step = omega (arith, le, no_less) in
      let sent : x h.chunk ig.link.0 h.step ≡ true = ap (λ c. x c ig.link.0 h.step) (sym chunk) ∙ ap (x g.chunk ig.link.0) (sym step) ∙ ig.sent in
      let same : ig.link.1 ≡ ih.link.1 = one_link h.chunk h.to h.step ig.link ih.link ih.chunk (to_below j d few) ih.step ig.is_link ih.is_link (ap (λ l. l.1) ig.ends ∙ to) (ap (λ l. l.1) ih.ends) sent ih.sent in
      let from : g.from ≡ h.from = ap (λ l. l.0) (sym ig.ends ∙ same ∙ ih.ends) in
      never_twice g h before step chunk from to)
      (cases_lt g.step h.step)

  pub is_tight : Tight pre s
  is_tight = grind (arith, sender_has, receiver_lacks, false_from_ne_true, pair_is, never_received_twice)

  pub delivers : IsPlacement post → post.chunks ≡ m.chunks → post.nodes ≡ m.nodes → length s.rounds ≡ m.steps → All (λ pair. holds (after pre s (length s.rounds)) pair ≡ true) post.pairs
  delivers ok pc pn steps = λ i d low.
      let pair = get_or post.pairs i d in
      let below = pairs_below post ok i d low in
      let cl : pair.0 < m.chunks = omega (arith, below.0, pc) in
      let nl : pair.1 < m.nodes = omega (arith, below.1, pn) in
      let wanted : holds post (pair.0, pair.1) ≡ true = list_any_at (same_pair pair) post.pairs i d low (pair_itself pair) in
      ap (λ k. holds (after pre s k) pair) steps ∙ run m.steps pair.0 pair.1 (omega arith) cl nl ∙ moves.ends pair.0 pair.1 cl nl wanted
