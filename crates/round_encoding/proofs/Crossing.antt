-- The sends that an assignment says load a group no more than its counter counts.
use Rattle.std.{proofs.{Common.{◌≡◌, ℕ, ◌<◌, ◌≤◌, Bool, true, List, map, eqb, refl, sym, ap, ◌∙◌, arith, ◌&&◌, flat_map, count_by, All, AllPairs}, lemmas.Bool.{and_parts, and_from, eqb-true, eq-eqb}}, specs.List.{list_any, range_with_len}}
use Rattle.schedule.{specs.{declared.hop.Hop.Hop, Links.{GroupValue, has_link}, Placed.same_pair, Sends.{hop_before, link_of}, Fitting.load}, proofs.Placing.pair_is}
use Rattle.cnf_formula.specs.Literals.{LitValue, is_true}
use Rattle.cardinality.specs.Counting.{true_inputs}
use Rattle.send_encoding.specs.{Variables.{SendMapValue, sent, link_number}, Sent.sends_of, Moving.JoinsNodes, Telling.IsTold}
use Rattle.send_encoding.proofs.{Members.{member, any_weaker, count_weaker}, Complete.{any_alike, count_alike}, Decoded.{any_range, sends_tell}, Orders.apart_once, Ascending.{LinkBefore, place_is, never_twice, sends_ascend}}
use Rattle.round_encoding.{specs.{Frames.Frame, Rounding.count_of_group}, proofs.{Twice.any_count, Complete.map_cells}}

module _ (f : Frame) (values : List Bool) (links : All (JoinsNodes f.map) f.map.links) (ascend : AllPairs LinkBefore f.map.links) (k : ℕ) (group : GroupValue) where
  abbrev m : SendMapValue
  m = f.map

  abbrev x : ℕ → ℕ → ℕ → Bool
  x c e k = is_true values (sent m c e k)

  abbrev sends : List Hop
  sends = sends_of m values

  abbrev cells : List (ℕ × (ℕ × ℕ))
  cells = flat_map (λ c. map (λ l. (c, l)) group.links) (range_with_len 0 m.chunks)

  -- the send carries this chunk over this link
  abbrev carries : Hop → ℕ × (ℕ × ℕ) → Bool
  carries h z = eqb h.chunk z.0 && same_pair (link_of h) z.1

  abbrev hit : Hop → ℕ × (ℕ × ℕ) → Bool
  hit h z = eqb h.step k && carries h z

  cell_of : (h : Hop) → h.chunk < m.chunks → has_link group (link_of h) ≡ true → list_any (carries h) cells ≡ true
  cell_of h low has =
      any_range (carries h) (λ c. map (λ l. (c, l)) group.links) 0 m.chunks h.chunk (omega arith) (omega (arith, low))
      (any_alike (carries h) (same_pair (link_of h)) (λ l. Unit {0}) (λ l. (h.chunk, l)) group.links (λ l _. ap (λ b. b && same_pair (link_of h) l) (eq-eqb h.chunk h.chunk refl)) (λ i d low. tt) ∙ has)

  hit_once : (z : ℕ × (ℕ × ℕ)) → count_by (λ h. hit h z) sends ≤ 1
  hit_once z =
      apart_once (λ a b. hop_before a b ≡ true) (λ h. hit h z) (λ a b before at bt.
      let pa = and_parts (eqb a.step k) (carries a z) at in
      let pb = and_parts (eqb b.step k) (carries b z) bt in
      let qa = and_parts (eqb a.chunk z.0) (same_pair (link_of a) z.1) pa.1 in
      let qb = and_parts (eqb b.chunk z.0) (same_pair (link_of b) z.1) pb.1 in
      let link : link_of a ≡ link_of b = pair_is (link_of a) z.1 qa.1 ∙ sym (pair_is (link_of b) z.1 qb.1) in
      never_twice a b before (eqb-true a.step k pa.0 ∙ sym (eqb-true b.step k pb.0)) (eqb-true a.chunk z.0 qa.0 ∙ sym (eqb-true b.chunk z.0 qb.0)) (ap (λ l. l.0) link) (ap (λ l. l.1) link)) sends
      (sends_ascend m values ascend)

  inputs_are : true_inputs values (count_of_group f k group).inputs ≡ count_by (λ z. x z.0 (link_number m z.1) k) cells
  inputs_are =
      let g : ℕ × (ℕ × ℕ) → LitValue = λ z. sent m z.0 (link_number m z.1) k in
      ap (true_inputs values) (map_cells g group.links 0 m.chunks) ∙ count_alike (is_true values) (λ z. x z.0 (link_number m z.1) k) (λ z. Unit {0}) g cells (λ z _. refl) (λ i d low. tt)

  pub load_counted : load group k sends ≤ true_inputs values (count_of_group f k group).inputs
  load_counted =
      let told = (sends_tell m values links).told in
      let listed = count_weaker (λ h. eqb h.step k && has_link group (link_of h)) (λ h. list_any (hit h) cells) (IsTold m x) sends told (λ h it u.
      let p = and_parts (eqb h.step k) (has_link group (link_of h)) u in
      any_weaker (carries h) (hit h) (λ z. Unit {0}) cells (λ i d low. tt) (λ z _ v. and_from (eqb h.step k) (carries h z) p.0 v) (cell_of h it.chunk p.1)) in
      let turned = any_count hit sends cells hit_once in
      let counted = count_weaker (λ z. list_any (λ h. hit h z) sends) (λ z. x z.0 (link_number m z.1) k) (λ z. Unit {0}) cells (λ i d low. tt) (λ z _ u.
      let found = member (λ h. hit h z) (IsTold m x) sends told u in
      let h = found.0 in
      let it = found.3 in
      let now = and_parts (eqb h.step k) (carries h z) found.1 in
      let what = and_parts (eqb h.chunk z.0) (same_pair (link_of h) z.1) now.1 in
      let link : link_of h ≡ z.1 = pair_is (link_of h) z.1 what.1 in
      let number : link_number m z.1 ≡ it.link.0 = place_is m.links ascend z.1 it.link.0 it.is_link.number (sym link ∙ sym it.ends ∙ it.is_link.is) in
      ap (λ e. x z.0 e k) number ∙ ap (λ c. x c it.link.0 k) (sym (eqb-true h.chunk z.0 what.0)) ∙ ap (x h.chunk it.link.0) (sym (eqb-true h.step k now.0)) ∙ it.sent) in
      omega (arith, listed, turned, counted, inputs_are)
