-- Where the tables move the chunks, the run of a schedule that tells the sends holds what the arrivals say.
use Rattle.std.proofs.{Common.{◌≡◌, ℕ, zero, suc, ◌+◌, ◌-◌, ◌<◌, ◌≤◌, Bool, true, eqb, sym, ap, ◌∙◌, ⊎_elim, arith, ◌&&◌, ◌||◌, All}, lemmas.Bool.{and_parts, and_from, or_left, or_right, or_cases, cases_Bool, eqb-true, eq-eqb}}
use Rattle.std.specs.List.{list_any, enumerate_from}
use Rattle.list_laws.proofs.Tests.{same_test}
use Rattle.schedule.{specs.{declared.hop.Hop.Hop, Placed.{PlacementValue, holds, same_pair}, Sends.{ScheduleValue, IsStep, link_of}, Running.{after, brings}}, proofs.{Placing.{pair_is, holds-placed}, Stepping.{chunks-after, nodes-after}}}
use Rattle.send_encoding.{specs.{Variables.{SendMapValue, links_into}, Moving.{IsLinkOf, JoinsNodes, Moves}, Telling.{IsTold, Tells}}, proofs.{Members.{member, any_weaker, kept}, Clauses.numbered_are}}

module _ (m : SendMapValue) (pre post : PlacementValue) (a x : ℕ → ℕ → ℕ → Bool) (s : ScheduleValue) (chunks : pre.chunks ≡ m.chunks) (nodes : pre.nodes ≡ m.nodes) (links : All (JoinsNodes m) m.links)
    (moves : Moves m pre post a x) (tells : Tells m x s.sends) where
  into : (n : ℕ) → All (λ z. IsLinkOf m z × (eqb z.1.1 n ≡ true)) (links_into m n)
  into n = kept (λ z. eqb z.1.1 n) (IsLinkOf m) (enumerate_from 0 m.links) (numbered_are m links)

  pub run_is : (k c n : ℕ) → k ≤ m.steps → c < m.chunks → n < m.nodes → holds (after pre s k) (c, n) ≡ a c n k
  run_is zero c n kl cl nl = sym (moves.starts c n cl nl)
  run_is (suc k) c n kl cl nl =
      let before = after pre s k in
      let cb : c < before.chunks = omega (arith, cl, chunks, chunks-after pre s k) in
      let nb : n < before.nodes = omega (arith, nl, nodes, nodes-after pre s k) in
      let low : k ≤ m.steps = omega (arith, kl) in
      let step : IsStep m.steps (suc k) = record { from = omega arith; to = kl } in
      let back : suc k - 1 ≡ k = omega arith in
      let up : k + 1 ≡ suc k = omega arith in
      let had_is = run_is k c n low cl nl in
      let bring : Hop → Bool = brings before (k + 1) (c, n) in
      holds-placed before.chunks before.nodes (λ pair. holds before pair || list_any (brings before (k + 1) pair) s.sends) (c, n) cb nb
      ∙ same_test (holds before (c, n) || list_any bring s.sends) (a c n (suc k))
      (λ h. ⊎_elim (λ t. moves.keeps c n (suc k) cl nl step (ap (a c n) back ∙ sym had_is ∙ t))
      (λ t.
      let found = member bring (IsTold m x) s.sends tells.told t in
      let hop = found.0 in
      let it = found.3 in
      let now = and_parts (eqb hop.step (k + 1)) (same_pair (hop.chunk, hop.to) (c, n) && holds before (hop.chunk, hop.from)) found.1 in
      let is = pair_is (hop.chunk, hop.to) (c, n) (and_parts (same_pair (hop.chunk, hop.to) (c, n)) (holds before (hop.chunk, hop.from)) now.1).0 in
      let when : hop.step ≡ suc k = eqb-true hop.step (k + 1) now.0 ∙ up in
      let to : it.link.1.1 ≡ n = ap (λ l. l.1) it.ends ∙ ap (λ p. p.1) is in
      let has = moves.brings hop.chunk hop.step it.link it.chunk it.is_link it.step it.sent in
      ap (λ v. a v n (suc k)) (sym (ap (λ p. p.0) is)) ∙ ap (λ v. a hop.chunk v (suc k)) (sym to) ∙ ap (a hop.chunk it.link.1.1) (sym when) ∙ has)
      (or_cases (holds before (c, n)) (list_any bring s.sends) h))
      (λ h. ⊎_elim (λ t. or_left (holds before (c, n)) (list_any bring s.sends) (had_is ∙ t))
      (λ f.
      let found = member (λ z. x c z.0 (suc k)) (λ z. IsLinkOf m z × (eqb z.1.1 n ≡ true)) (links_into m n) (into n) (moves.sent c n (suc k) cl nl step h (ap (a c n) back ∙ f)) in
      let z = found.0 in
      let at = found.3.0 in
      let node : z.1.1 ≡ n = eqb-true z.1.1 n found.3.1 in
      let sender : holds before (c, z.1.0) ≡ true = run_is k c z.1.0 low cl at.from ∙ ap (a c z.1.0) (sym back) ∙ moves.sender c (suc k) z cl at step found.1 in
      or_right (holds before (c, n)) (list_any bring s.sends)
      (any_weaker (λ h. eqb h.step (suc k) && (eqb h.chunk c && same_pair (link_of h) z.1)) bring (λ h. Unit {0}) s.sends (λ i d w. tt) (λ hop _ u.
      let now = and_parts (eqb hop.step (suc k)) (eqb hop.chunk c && same_pair (link_of hop) z.1) u in
      let what = and_parts (eqb hop.chunk c) (same_pair (link_of hop) z.1) now.1 in
      let chunk : hop.chunk ≡ c = eqb-true hop.chunk c what.0 in
      let link : link_of hop ≡ z.1 = pair_is (link_of hop) z.1 what.1 in
      let from : hop.from ≡ z.1.0 = ap (λ l. l.0) link in
      let to : hop.to ≡ n = ap (λ l. l.1) link ∙ node in
      let had_it : holds before (hop.chunk, hop.from) ≡ true = ap (λ v. holds before (v, hop.from)) chunk ∙ ap (λ v. holds before (c, v)) from ∙ sender in
      let pair : same_pair (hop.chunk, hop.to) (c, n) ≡ true = and_from (eqb hop.chunk c) (eqb hop.to n) what.0 (eq-eqb hop.to n to) in
      and_from (eqb hop.step (k + 1)) (same_pair (hop.chunk, hop.to) (c, n) && holds before (hop.chunk, hop.from)) (ap (eqb hop.step) up ∙ now.0)
      (and_from (same_pair (hop.chunk, hop.to) (c, n)) (holds before (hop.chunk, hop.from)) pair had_it))
      (tells.tells c (suc k) z cl at step found.1)))
      (cases_Bool (a c n k)))
