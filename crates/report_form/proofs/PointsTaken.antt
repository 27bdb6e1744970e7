-- What the checks of a point took stands there, and is valid.
use Rattle.std.proofs.Common.{◌≡◌, ℕ, zero, suc, ◌+◌, ◌-◌, ◌*◌, min, ◌≤◌, Bool, true, ◌&&◌, ltb, List, [], ◌∷◌, ◌++◌, map, length, sum, Option, None, Result, Ok, ◌⊎◌, inl, inr, refl, sym, ap, ◌∙◌, subst, arith, ◌==◌, codes, nat_le, nat_lt, All, AllPairs}
use Rattle.std.{proofs.lemmas.{Bool.{and_parts, and_from, eqb-true, leb-true, lt-ltb}, List.{Sums.sum_by-cons, Elements.{All-push, All-nil, All-cons}}}, specs.List.{last_or, list_all}}
use Rattle.list_laws.proofs.Pairs.{no_pairs}
use Rattle.text_lines.{specs.{Text.{Row, Place}, Check.{◌>>=◌, line_part}}, proofs.Gives.{Gives, gives_done, gives_like, gives_then, Between, then_on, cut_here, cut_on, Took, Stops, Steps, Takes, lines_give}}
use Rattle.schedule.specs.{declared.hop.Hop.Hop, Sends.{IsRound, IsStep, is_hop_below}}
use Rattle.collective_spec.specs.Collectives.{chunks_in}
use Rattle.candidate_order.specs.{declared.{candidate.Candidate.Candidate, mark.Mark.Mark}, Ranges.IsLimits, Frontiers.{QuestionValue, PointValue, IsWithin}}
use Rattle.candidate_order.specs.declared.mark.Mark.TheVariants as mark
use Rattle.report_form.specs.{declared.fault.ReportCode.ReportCode, Reports.{HasSchedule, IsPrintedPoint}, Tests.{is_within, comes_next}, Spelling.{rounds_words, send_words, point_words, point_lines}}
use Rattle.report_form.specs.Points.{HeadValue, head_from, head_line, rounds_from, are_rounds, send_from, follows, may_be_sent, send_line, schedule_at, frontier_point_at}
use Rattle.report_form.proofs.{Tested.decides_within, Ascending.{HopBefore, push_hop}, LineTaken.{ruled_gives, ruled_takes}, Shapes.{head_take, rounds_take, send_take}, ListsTaken.{AreListed, none_listed, push_part}}

each_of : {X : Type 0} (p : X → Bool) (P : X → Type 0) (h : (x : X) → p x ≡ true → P x) (xs : List X) → list_all p xs ≡ true → All P xs
each_of p P h [] e = All-nil P
each_of p P h (x ∷ xs) e = let parts = and_parts (p x) (list_all p xs) e in All-cons P x xs (h x parts.0) (each_of p P h xs parts.1)

-- ---- rounds

pub record AreRounds (x : Candidate) (rounds : List ℕ) : Type 0 where
  pub many : length rounds ≡ x.s
  pub each : All IsRound rounds
  pub total : sum rounds ≡ x.r

rounds_valid : (x : Candidate) (rounds : List ℕ) → are_rounds x rounds ≡ true → AreRounds x rounds
rounds_valid x rounds e =
    let outer = and_parts (length rounds == x.s && list_all (λ n. nat_le 1 n && nat_le n 9) rounds) (sum rounds == x.r) e in
    let inner = and_parts (length rounds == x.s) (list_all (λ n. nat_le 1 n && nat_le n 9) rounds) outer.0 in
    record {
      many = eqb-true (length rounds) x.s inner.0;
      each = each_of (λ n. nat_le 1 n && nat_le n 9) IsRound (λ n h. let range = and_parts (nat_le 1 n) (nat_le n 9) h in record { some = leb-true 1 n range.0; few = leb-true n 9 range.1 }) rounds inner.1;
      total = eqb-true (sum rounds) x.r outer.1;
    }

-- so many rounds in so many steps, from 1 to 9 in each
pub record SomeRounds (s r : ℕ) : Type 0 where
  pub rounds : List ℕ
  pub many : length rounds ≡ s
  pub each : All IsRound rounds
  pub total : sum rounds ≡ r

pub some_rounds : (s r : ℕ) → s ≤ r → r ≤ 9 * s → SomeRounds s r
some_rounds zero r low high = record { rounds = []; many = refl; each = All-nil IsRound; total = omega (arith, high) }
some_rounds (suc s) r low high =
    let f : ℕ = min 9 (r - s) in
    let later = some_rounds s (r - f) (omega (arith, low)) (omega (arith, low, high)) in
    record {
      rounds = f ∷ later.rounds;
      many = omega (arith, later.many);
      each = All-cons IsRound f later.rounds (record { some = omega (arith, low); few = omega arith }) later.each;
      total = sum_by-cons (λ (x : ℕ). x) f later.rounds ∙ ap (λ n. f + n) later.total ∙ (omega (arith, low));
    }

-- ---- sends

module _ (names : List (List ℕ)) (chunks steps : ℕ) where
  pub record AreSends (sends : List Hop) : Type 0 where
    pub steps_are : All (λ h. IsStep steps h.step) sends
    pub below : All (λ h. is_hop_below chunks (length names) h ≡ true) sends
    pub ascending : AllPairs HopBefore sends

  pub no_sends : AreSends []
  no_sends = record { steps_are = All-nil (λ h. IsStep steps h.step); below = All-nil (λ h. is_hop_below chunks (length names) h ≡ true); ascending = no_pairs HopBefore }

  pub send_takes : Takes (codes "send ") (send_line names chunks steps) (send_words names) AreSends
  send_takes = ruled_takes (codes "send ") (send_from names) (λ before h. may_be_sent chunks steps h && follows (last_or None before) h) (send_words names) AreSends
      (λ before words h are shape rule.
      let taken = send_take names words h shape in
      let parts = and_parts (may_be_sent chunks steps h) (follows (last_or None before) h) rule in
      let outer = and_parts (nat_lt h.chunk chunks && nat_le 1 h.step) (nat_le h.step steps) parts.0 in
      let inner = and_parts (nat_lt h.chunk chunks) (nat_le 1 h.step) outer.0 in
      let low = leb-true 1 h.step inner.1 in (
        taken.stands,
        record {
          steps_are = All-push (λ k. IsStep steps k.step) before h are.steps_are (record { from = omega (arith, low); to = leb-true h.step steps outer.1 });
          below = All-push (λ k. is_hop_below chunks (length names) k ≡ true) before h are.below
              (and_from (ltb h.chunk chunks) (ltb h.from (length names) && ltb h.to (length names)) inner.0
              (and_from (ltb h.from (length names)) (ltb h.to (length names)) (lt-ltb h.from (length names) taken.from) (lt-ltb h.to (length names) taken.to)));
          ascending = push_hop before h are.ascending parts.1;
        },
      ))

-- ---- a schedule behind the head of its point

abbrev pub point_of : HeadValue → List ℕ → List Hop → PointValue
point_of head rounds sends = record { candidate = head.candidate; schedule = record { rounds = rounds; sends = sends }; mark = head.mark }

abbrev pub schedule_lines : List (List ℕ) → PointValue → List (List (List ℕ))
schedule_lines names p = rounds_words p.schedule.rounds ∷ map (send_words names) p.schedule.sends

-- a point of this candidate and mark
pub record Scheduled (q : QuestionValue) (head : HeadValue) (x : PointValue) : Type 0 where
  pub candidate : x.candidate ≡ head.candidate
  pub mark : x.mark ≡ head.mark
  pub has : 1 ≤ head.candidate.s → head.candidate.s ≤ 16 → HasSchedule q x

-- the words of a point's line
abbrev pub headed : HeadValue → List (List ℕ)
headed head = point_words (point_of head [] [])

-- a point of this head may stand behind those before it
pub record Headed (q : QuestionValue) (Q : List PointValue → Type 0) (before : List PointValue) (head : HeadValue) : Type 0 where
  pub some : SomeRounds head.candidate.s head.candidate.r
  pub keeps : (x : PointValue) → Scheduled q head x → Q (before ++ x ∷ [])

module _ (names : List (List ℕ)) (q : QuestionValue) (as_many : length names ≡ q.topology.nodes) where
  abbrev chunks_at : HeadValue → ℕ
  chunks_at head = chunks_in q.spec q.topology.nodes head.candidate.c

  pub schedule_valid : (head : HeadValue) (rounds : List ℕ) (sends : List Hop) → AreRounds head.candidate rounds → AreSends names (chunks_at head) head.candidate.s sends → 1 ≤ head.candidate.s → head.candidate.s ≤ 16 → HasSchedule q (point_of head rounds sends)
  schedule_valid head rounds sends are sent some few = grind arith

  -- the schedule that was read, or one whose first lines were
  pub schedule_gives : (head : HeadValue) (p : Place)
      → Gives (λ (e : ReportCode × ℕ). SomeRounds head.candidate.s head.candidate.r → Stops (schedule_lines names) (Scheduled q head) p e.1) (λ (x : PointValue × Place). Took (schedule_lines names) (Scheduled q head) p x) (schedule_at names q head p)
  unfolding schedule_at
  schedule_gives head p =
      let steps : ℕ = head.candidate.s in
      let made : (rounds : List ℕ) (sends : List Hop) → AreRounds head.candidate rounds → AreSends names (chunks_at head) steps sends → Scheduled q head (point_of head rounds sends) =
      λ rounds sends are sent. record { candidate = refl; mark = refl; has = schedule_valid head rounds sends are sent } in
      gives_then _ _ (ruled_gives rounds_from (are_rounds head.candidate) (λ rounds. rounds) rounds_words (AreRounds head.candidate) (λ words rounds shape rule. (rounds_take words rounds shape, rounds_valid head.candidate rounds rule)) p)
      (λ e line some. record { value = point_of head some.rounds []; valid = made some.rounds [] (record { many = some.many; each = some.each; total = some.total }) (no_sends names (chunks_at head) steps); cut = cut_here _ p e.1 line })
      (λ y read first. gives_then _ _ (lines_give (codes "send ") _ (send_words names) (AreSends names (chunks_at head) steps) (send_takes names (chunks_at head) steps) (no_sends names (chunks_at head) steps) y.1)
      (λ e s some. record { value = point_of head y.0 s.value; valid = made y.0 s.value first.0 s.valid; cut = cut_on (rounds_words y.0 ∷ []) (map (send_words names) s.value) p y.1 e.1 first.1 s.cut })
      (λ z sent t. gives_done _ (record { valid = made y.0 z.0 first.0 t.valid; lines = then_on (rounds_words y.0 ∷ []) (map (send_words names) z.0) p y.1 z.1 first.1 t.lines })))

  pub schedule_take : (head : HeadValue) (p : Place) (x : PointValue × Place) → schedule_at names q head p ≡ Ok x → Scheduled q head x.0
  schedule_take head p x e = ((schedule_gives head p).ok x e).valid

  -- a part that begins with such a head
  pub headed_steps : (check : List PointValue → Option Row → Result HeadValue ReportCode) (Q : List PointValue → Type 0)
      → ((before : List PointValue) (p : Place) → Q before → Gives (λ (e : ReportCode × ℕ). e.1 ≡ p.number) (λ (h : HeadValue × Place). Headed q Q before h.0 × Between (headed h.0 ∷ []) p h.1) (line_part (check before) p))
      → Steps (codes "point ") (λ before p. line_part (check before) p >>= (λ h. schedule_at names q h.0 h.1)) (point_lines names) Q
  headed_steps check Q heads before p begun are = gives_then _ _ (heads before p are) (λ e line. inl line)
      (λ h read head. let lines : (x : PointValue) → Scheduled q h.0 x → Between (point_words x ∷ []) p h.1 = λ x s. subst (λ (ws : List (List ℕ)). Between (ws ∷ []) p h.1) (grind arith) head.1 in
      gives_like
      (λ e stops. let s = stops head.0.some in inr (record { value = s.value; valid = head.0.keeps s.value s.valid; cut = cut_on (point_words s.value ∷ []) (schedule_lines names s.value) p h.1 e.1 (lines s.value s.valid) s.cut }))
      (λ x t. record { valid = head.0.keeps x.0 t.valid; lines = then_on (point_words x.0 ∷ []) (schedule_lines names x.0) p h.1 x.1 (lines x.0 t.valid) t.lines })
      (schedule_gives h.0 h.1))

  -- ---- points of a frontier

  abbrev solved_by : List PointValue → List Candidate
  solved_by ps = map (λ p. p.candidate) ps

  pub record ArePoints (ps : List PointValue) : Type 0 where
    pub each : All (IsPrintedPoint q) ps
    pub listed : AreListed q (solved_by ps)

  pub no_points : ArePoints []
  no_points = record { each = All-nil (IsPrintedPoint q); listed = none_listed q }

  pub point_steps : IsLimits q.limits → Steps (codes "point ") (frontier_point_at names q) (point_lines names) ArePoints
  unfolding frontier_point_at
  point_steps ok = headed_steps (λ before. head_line q (last_or None (solved_by before))) ArePoints
      (λ before p are. ruled_gives head_from (λ h. is_within q h.candidate && comes_next (last_or None (solved_by before)) h.candidate) (λ h. h) headed (Headed q ArePoints before)
      (λ words h shape rule.
      let taken = head_take words h shape in
      let parts = and_parts (is_within q h.candidate) (comes_next (last_or None (solved_by before)) h.candidate) rule in
      let w : IsWithin q h.candidate = (decides_within q h.candidate).0 parts.0 in
      let M : Mark → Type 0 = λ m. (m ≡ mark.Optimal) ⊎ (m ≡ mark.Open) in (
        taken.stands,
        record {
          some = some_rounds h.candidate.s h.candidate.r w.all_rounds (omega (arith, w.some_steps, w.rounds, ok.k));
          keeps = λ x s. let within : IsWithin q x.candidate = subst (IsWithin q) (sym s.candidate) w in record {
            each = All-push (IsPrintedPoint q) before x are.each (record { has = s.has w.some_steps (omega (arith, w.steps, ok.steps)); within = within; mark = subst M (sym s.mark) taken.mark });
            listed = push_part q (λ y. y.candidate) before x are.listed within (ap (comes_next (last_or None (solved_by before))) s.candidate ∙ parts.1);
          };
        },
      )) p)
