-- The lines of rounds and of sends that are spelled are read.
use Rattle.std.proofs.{Common.{◌≡◌, ℕ, ◌≤◌, Bool, true, ◌&&◌, ltb, List, [], ◌∷◌, map, length, sum, Option, None, IfSome, refl, arith, ◌==◌, codes, nat_le, nat_lt, All}, lemmas.Bool.{and_parts, and_from, eq-eqb, le-leb, ltb-true}}
use Rattle.std.{proofs.lemmas.List.Elements.{All-head, All-tail, All-weaker}, specs.List.{last_or, list_all, AllByRecursion}}
use Rattle.text_lines.proofs.{Distinct.next_has, ReadBack.ReadsLine, Rows.AreTokens, Words.tokens_from}
use Rattle.schedule.specs.{declared.hop.Hop.Hop, Sends.{IsRound, IsStep, is_hop_below}}
use Rattle.candidate_order.specs.declared.candidate.Candidate.{Candidate}
use Rattle.topology_text.specs.Names.{AreNames}
use Rattle.report_form.{specs.{Spelling.{rounds_words, send_words}, Points.{are_rounds, send_from, follows, may_be_sent, send_line}}, proofs.{Ascending.HopBefore, PointsTaken.AreSends}}
use Rattle.report_laws.proofs.{ShapesAgain.{Small, IsSpelled, rounds_are_words, send_again, send_are_words}, ListsAgain.{ruled_line, next_follows}}

-- ---- rounds

all_pass : {X : Type 0} (p : X → Bool) (P : X → Type 0) (h : (x : X) → P x → p x ≡ true) (xs : List X) → All P xs → list_all p xs ≡ true
all_pass p P h [] all = refl
all_pass p P h (x ∷ xs) all = and_from (p x) (list_all p xs) (h x (All-head P x xs all)) (all_pass p P h xs (All-tail P x xs all))

pub rounds_small : (rounds : List ℕ) → All IsRound rounds → All Small rounds
rounds_small rounds all = All-weaker IsRound Small (λ n r. let few = r.few in omega (arith, few)) rounds all

pub rounds_kept : (x : Candidate) (rounds : List ℕ) → length rounds ≡ x.s → All IsRound rounds → sum rounds ≡ x.r → are_rounds x rounds ≡ true
rounds_kept x rounds many each total =
    and_from (length rounds == x.s && list_all (λ n. nat_le 1 n && nat_le n 9) rounds) (sum rounds == x.r)
    (and_from (length rounds == x.s) (list_all (λ n. nat_le 1 n && nat_le n 9) rounds) (eq-eqb (length rounds) x.s many)
    (all_pass (λ n. nat_le 1 n && nat_le n 9) IsRound (λ n r. let some = r.some in and_from (nat_le 1 n) (nat_le n 9) (le-leb 1 n (omega (arith, some))) (le-leb n 9 r.few)) rounds each))
    (eq-eqb (sum rounds) x.r total)

pub rounds_tokens : (rounds : List ℕ) → All IsRound rounds → AreTokens (rounds_words rounds)
rounds_tokens rounds each = tokens_from (rounds_words rounds) (omega arith) (rounds_are_words rounds (rounds_small rounds each))

-- ---- sends

follows_from : (o : Option Hop) (h : Hop) → IfSome o (λ l. HopBefore l h) → follows o h ≡ true
follows_from o h e = grind arith

module _ (names : List (List ℕ)) (named : AreNames names) (chunks steps : ℕ) (few_chunks : chunks ≤ 65535) (few_steps : steps ≤ 65535) where
  send_spelled : (h : Hop) → IsStep steps h.step → is_hop_below chunks (length names) h ≡ true → IsSpelled names h
  send_spelled h at below = grind (arith, and_parts, ltb-true)

  send_tokens : (h : Hop) → IsSpelled names h → AreTokens (send_words names h)
  send_tokens h ok = tokens_from (send_words names h) (omega arith) (send_are_words names h named ok)

  pub send_reads : ReadsLine (codes "send ") (send_line names chunks steps) (send_words names) (AreSends names chunks steps)
  send_reads = record {
    line = λ before h more are.
        let at = next_has (λ k. IsStep steps k.step) before h more are.steps_are in
        let below = next_has (λ k. is_hop_below chunks (length names) k ≡ true) before h more are.below in
        let (chunk, nodes) = and_parts (ltb h.chunk chunks) (ltb h.from (length names) && ltb h.to (length names)) below in
        let some = at.from in
        let may = and_from (nat_lt h.chunk chunks && nat_le 1 h.step) (nat_le h.step steps) (and_from (nat_lt h.chunk chunks) (nat_le 1 h.step) chunk (le-leb 1 h.step (omega (arith, some)))) (le-leb h.step steps at.to) in
        let behind = follows_from (last_or None before) h (next_follows HopBefore before h more are.ascending) in
        let ok = send_spelled h at below in
        ruled_line (send_from names) (λ k. may_be_sent chunks steps k && follows (last_or None before) k) (λ k. k) (send_words names h) h (send_tokens h ok) (send_again names h named.distinct ok) (and_from (may_be_sent chunks steps h) (follows (last_or None before) h) may behind);
    starts = λ h. refl;
  }

  pub sends_are_tokens : (sends : List Hop) → All (λ h. IsStep steps h.step) sends → All (λ h. is_hop_below chunks (length names) h ≡ true) sends → AllByRecursion AreTokens (map (send_words names) sends)
  sends_are_tokens [] at below = tt
  sends_are_tokens (h ∷ sends) at below = (
    send_tokens h (send_spelled h (All-head (λ k. IsStep steps k.step) h sends at) (All-head (λ k. is_hop_below chunks (length names) k ≡ true) h sends below)),
    sends_are_tokens sends (All-tail (λ k. IsStep steps k.step) h sends at) (All-tail (λ k. is_hop_below chunks (length names) k ≡ true) h sends below),
  )
