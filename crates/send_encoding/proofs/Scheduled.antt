-- The tables of a schedule that solves move the chunks.
use Rattle.std.proofs.Common.{◌≡◌, ℕ, ◌-◌, ◌<◌, ◌≤◌, Bool, true, false, length, get_or, eqb, ltb, refl, sym, ap, ◌∙◌, subst, ⊎_elim, arith, ◌&&◌, ◌||◌, not, count_by, All}
use Rattle.std.{proofs.lemmas.Bool.{false≢true, and_parts, and_from, or_left, or_cases, not-true, not_from_false, eqb-true, eq-eqb, ltb-true}, specs.List.{enumerate_from, list_any}}
use Rattle.schedule.specs.{Links.{TopologyValue, is_usable, usable_links}, Placed.{PlacementValue, holds, same_pair}, Running.{after, brings}, Solving.Solves, Sends.{ScheduleValue, IsStep, IsInRange, link_of, is_hop_below}}
use Rattle.schedule.proofs.{Placing.{pair_is, holds-placed}, Stepping.{chunks-after, nodes-after}}
use Rattle.send_encoding.specs.{Variables.{SendMapValue, map_of, links_into}, Moving.{IsLinkOf, JoinsNodes, Moves}, Leading.{leads, had, carried, brought}}
use Rattle.send_encoding.proofs.{First.{some_leads, leader, one_leads, passes_once}, Members.{member, any_weaker, numbered_any, filter_any, kept, count_weaker}, Clauses.numbered_are}

module _ (t : TopologyValue) (pre post : PlacementValue) (s : ScheduleValue) (steps rounds : ℕ) (nodes : pre.nodes ≡ t.nodes) (links : All (JoinsNodes (map_of t pre steps)) (usable_links t))
    (range : IsInRange pre.chunks pre.nodes s) (solves : Solves t pre post s steps rounds) where
  abbrev m : SendMapValue
  m = map_of t pre steps

  abbrev a : ℕ → ℕ → ℕ → Bool
  a = had pre s

  abbrev x : ℕ → ℕ → ℕ → Bool
  x = brought m pre s

  grew : (c n k : ℕ) → c < m.chunks → n < m.nodes → 0 < k → a c n k ≡ (a c n (k - 1) || list_any (brings (after pre s (k - 1)) k (c, n)) s.sends)
  grew c n k cl nl some = grind (arith, chunks-after, holds-placed, nodes-after)

  into : (n : ℕ) → All (λ z. IsLinkOf m z × (eqb z.1.1 n ≡ true)) (links_into m n)
  into n = kept (λ z. eqb z.1.1 n) (IsLinkOf m) (enumerate_from 0 m.links) (numbered_are m links)

  keeps_had : (c n k : ℕ) → c < m.chunks → n < m.nodes → IsStep m.steps k → a c n (k - 1) ≡ true → a c n k ≡ true
  keeps_had c n k cl nl step h = grew c n k cl nl step.from ∙ or_left (a c n (k - 1)) (list_any (brings (after pre s (k - 1)) k (c, n)) s.sends) h

  ends_had : (c n : ℕ) → c < m.chunks → n < m.nodes → holds post (c, n) ≡ true → a c n m.steps ≡ true
  ends_had c n cl nl h =
      let found = member (same_pair (c, n)) (λ pair. holds (after pre s (length s.rounds)) pair ≡ true) post.pairs solves.delivers h in
      let is : (c, n) ≡ found.0 = pair_is (c, n) found.0 found.1 in
      ap (λ v. holds (after pre s v) (c, n)) (sym solves.steps_are) ∙ ap (holds (after pre s (length s.rounds))) is ∙ found.3

  -- ---- what a send that is first says

  pub record First (c k : ℕ) (z : ℕ × (ℕ × ℕ)) : Type 0 where
    pub lacked : a c z.1.1 (k - 1) ≡ false
    pub has : a c z.1.1 k ≡ true
    pub carries : carried pre s c k z ≡ true

  pub first : (c k : ℕ) (z : ℕ × (ℕ × ℕ)) → IsLinkOf m z → x c z.0 k ≡ true → First c k z
  first c k z at h =
      let n = (get_or m.links z.0 (0, 0)).1 in
      let node : n ≡ z.1.1 = ap (λ l. l.1) (sym at.is) in
      let p = and_parts (not (a c n (k - 1))) (a c n k && leads (carried pre s c k) (links_into m n) z.0) h in
      let q = and_parts (a c n k) (leads (carried pre s c k) (links_into m n) z.0) p.1 in
      let led = leader (carried pre s c k) (λ y. IsLinkOf m y × (eqb y.1.1 n ≡ true)) (links_into m n) z.0 (into n) q.1 in
      let other = led.0 in
      let link : other.1 ≡ z.1 = led.3.0.is ∙ ap (λ e. get_or m.links e (0, 0)) led.1 ∙ sym at.is in
      let same : ℕ × ℕ → Bool = λ l. a c l.0 (k - 1) && list_any (λ h. eqb h.step k && (eqb h.chunk c && same_pair (link_of h) l)) s.sends in
      record {
        lacked = subst (λ v. a c v (k - 1) ≡ false) node (not-true (a c n (k - 1)) p.0);
        has = subst (λ v. a c v k ≡ true) node q.0;
        carries = ap same (sym link) ∙ led.2;
      }

  -- ---- a node that comes to have a chunk is brought it

  usable_into : (n : ℕ) (link : ℕ × ℕ) → link.0 < t.nodes → link.1 < t.nodes → link.1 ≡ n → is_usable t link ≡ true → list_any (λ z. same_pair link z.1) (links_into m n) ≡ true
  usable_into n link fl tl e u =
      let listed : list_any (same_pair link) (usable_links t) ≡ true = holds-placed t.nodes t.nodes (is_usable t) link fl tl ∙ u in
      filter_any (λ z. eqb z.1.1 n) (λ z. same_pair link z.1) (enumerate_from 0 m.links)
      (λ z h. eq-eqb z.1.1 n (ap (λ l. l.1) (sym (pair_is link z.1 h)) ∙ e)) (numbered_any (same_pair link) 0 (usable_links t) listed)

  some_carry : (c n k : ℕ) → c < m.chunks → n < m.nodes → list_any (brings (after pre s (k - 1)) k (c, n)) s.sends ≡ true → list_any (carried pre s c k) (links_into m n) ≡ true
  some_carry c n k cl nl h =
      let both : All (λ h. (is_hop_below pre.chunks pre.nodes h ≡ true) × (is_usable t (link_of h) ≡ true)) s.sends = λ i d low. (range i d low, solves.fits.usable i d low) in
      let found = member (brings (after pre s (k - 1)) k (c, n)) (λ h. (is_hop_below pre.chunks pre.nodes h ≡ true) × (is_usable t (link_of h) ≡ true)) s.sends both h in
      let hop = found.0 in
      let now = and_parts (eqb hop.step k) (same_pair (hop.chunk, hop.to) (c, n) && holds (after pre s (k - 1)) (hop.chunk, hop.from)) found.1 in
      let rest = and_parts (same_pair (hop.chunk, hop.to) (c, n)) (holds (after pre s (k - 1)) (hop.chunk, hop.from)) now.1 in
      let is = pair_is (hop.chunk, hop.to) (c, n) rest.0 in
      let chunk : hop.chunk ≡ c = ap (λ p. p.0) is in
      let to : hop.to ≡ n = ap (λ p. p.1) is in
      let below = and_parts (ltb hop.chunk pre.chunks) (ltb hop.from pre.nodes && ltb hop.to pre.nodes) found.3.0 in
      let ends = and_parts (ltb hop.from pre.nodes) (ltb hop.to pre.nodes) below.1 in
      let fl : hop.from < t.nodes = omega (arith, nodes, ltb-true hop.from pre.nodes ends.0) in
      let tl : hop.to < t.nodes = omega (arith, nodes, ltb-true hop.to pre.nodes ends.1) in
      any_weaker (λ z. same_pair (link_of hop) z.1) (carried pre s c k) (λ z. IsLinkOf m z × (eqb z.1.1 n ≡ true)) (links_into m n) (into n) (λ z at same.
      let link : link_of hop ≡ z.1 = pair_is (link_of hop) z.1 same in
      let sender : a c z.1.0 (k - 1) ≡ true = ap (λ p. holds (after pre s (k - 1)) p) (ap (λ l. (c, l.0)) (sym link) ∙ ap (λ v. (v, hop.from)) (sym chunk)) ∙ rest.1 in
      let sent = found.2 (λ h. eqb h.step k && (eqb h.chunk c && same_pair (link_of h) z.1)) (and_from (eqb hop.step k) (eqb hop.chunk c && same_pair (link_of hop) z.1) now.0 (and_from (eqb hop.chunk c) (same_pair (link_of hop) z.1) (eq-eqb hop.chunk c chunk) same)) in
      and_from (a c z.1.0 (k - 1)) (list_any (λ h. eqb h.step k && (eqb h.chunk c && same_pair (link_of h) z.1)) s.sends) sender sent)
      (usable_into n (link_of hop) fl tl to found.3.1)

  is_sent : (c n k : ℕ) → c < m.chunks → n < m.nodes → IsStep m.steps k → a c n k ≡ true → a c n (k - 1) ≡ false → list_any (λ z. x c z.0 k) (links_into m n) ≡ true
  is_sent c n k cl nl step has lacked =
      let came : list_any (brings (after pre s (k - 1)) k (c, n)) s.sends ≡ true =
      ⊎_elim (λ b. absurd (false≢true (sym lacked ∙ b))) (λ b. b) (or_cases (a c n (k - 1)) (list_any (brings (after pre s (k - 1)) k (c, n)) s.sends) (sym (grew c n k cl nl step.from) ∙ has)) in
      any_weaker (λ z. leads (carried pre s c k) (links_into m n) z.0) (λ z. x c z.0 k) (λ z. IsLinkOf m z × (eqb z.1.1 n ≡ true)) (links_into m n) (into n) (λ z at led.
      let node : n ≡ (get_or m.links z.0 (0, 0)).1 = sym (eqb-true z.1.1 n at.1) ∙ ap (λ l. l.1) at.0.is in
      subst (λ v. (not (a c v (k - 1)) && (a c v k && leads (carried pre s c k) (links_into m v) z.0)) ≡ true) node
      (and_from (not (a c n (k - 1))) (a c n k && leads (carried pre s c k) (links_into m n) z.0) (not_from_false (a c n (k - 1)) lacked) (and_from (a c n k) (leads (carried pre s c k) (links_into m n) z.0) has led)))
      (some_leads (carried pre s c k) (links_into m n) (some_carry c n k cl nl came))

  sent_once : (c n k : ℕ) → c < m.chunks → n < m.nodes → IsStep m.steps k → count_by (λ z. x c z.0 k) (links_into m n) ≤ 1
  sent_once c n k cl nl step =
      let led : ℕ → Bool = leads (carried pre s c k) (links_into m n) in
      let fewer : count_by (λ z. x c z.0 k) (links_into m n) ≤ count_by (λ z. led z.0) (links_into m n) =
      count_weaker (λ z. x c z.0 k) (λ z. led z.0) (λ z. IsLinkOf m z × (eqb z.1.1 n ≡ true)) (links_into m n) (into n) (λ z at h.
      let v = (get_or m.links z.0 (0, 0)).1 in
      let node : v ≡ n = ap (λ l. l.1) (sym at.0.is) ∙ eqb-true z.1.1 n at.1 in
      let p = and_parts (not (a c v (k - 1))) (a c v k && leads (carried pre s c k) (links_into m v) z.0) h in
      let q = and_parts (a c v k) (leads (carried pre s c k) (links_into m v) z.0) p.1 in
      subst (λ w. leads (carried pre s c k) (links_into m w) z.0 ≡ true) node q.1) in
      let once = passes_once (λ z. eqb z.1.1 n) led 0 (usable_links t) (one_leads (carried pre s c k) (links_into m n)) in
      omega (arith, fewer, once)

  pub schedule_moves : Moves m pre post a x
  schedule_moves = record {
    starts = λ c n cl nl. refl;
    keeps = keeps_had;
    ends = ends_had;
    sender = λ c k z cl at step h. (and_parts (a c z.1.0 (k - 1)) (list_any (λ h. eqb h.step k && (eqb h.chunk c && same_pair (link_of h) z.1)) s.sends) (first c k z at h).carries).0;
    receiver = λ c k z cl at step h. (first c k z at h).lacked;
    brings = λ c k z cl at step h. (first c k z at h).has;
    sent = is_sent;
    once = sent_once;
  }
