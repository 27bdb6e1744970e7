-- The literals of arrivals and sends are about their own variables.
use Rattle.std.proofs.{Common.{ℕ, ◌+◌, ◌-◌, ◌*◌, ◌<◌, ◌≤◌, Bool, true, false, List, [], ◌∷◌, length, map, arith, if◌then◌else◌, All}, lemmas.List.Elements.{All-nil, All-cons, All-head, All-tail, All-append, All-filter}}
use Rattle.std.specs.List.{enumerate_from}
use Rattle.schedule.specs.{Placed.{PlacementValue, holds}, Sends.IsStep}
use Rattle.cnf_formula.{specs.{Literals.{LitValue, negation}, Formulas.{IsAbout, IsClause}}, proofs.Clauses.negation_about}
use Rattle.cardinality.specs.Counting.{at_most_one_of}
use Rattle.send_encoding.specs.{Variables.{SendMapValue, links_into, arrival, arrivals, sent, sends}, Sending.{send_over, sends_into, sending}, Moving.{IsLinkOf, JoinsNodes}}
use Rattle.send_encoding.proofs.{Everywhere.{in_map, From, slot}, Clauses.{numbered_are, all_of_each}}

-- ---- clauses of a few literals

pub one : (v : ℕ) (l : LitValue) → IsAbout v l → IsClause v (l ∷ [])
one v l a = All-cons (IsAbout v) l [] a (All-nil (IsAbout v))

pub two : (v : ℕ) (l k : LitValue) → IsAbout v l → IsAbout v k → IsClause v (l ∷ k ∷ [])
two v l k a b = All-cons (IsAbout v) l (k ∷ []) a (one v k b)

pub only_clause : (v : ℕ) (c : List LitValue) → IsClause v c → All (IsClause v) (c ∷ [])
only_clause v c a = All-cons (IsClause v) c [] a (All-nil (IsClause v))

pairs_about : (v : ℕ) (ls : List LitValue) → IsClause v ls → All (IsClause v) (at_most_one_of ls)
pairs_about v [] a = All-nil (IsClause v)
pairs_about v (l ∷ ls) a =
    let here = All-head (IsAbout v) l ls a in
    let rest = All-tail (IsAbout v) l ls a in
    All-append (IsClause v) (map (λ other. negation l ∷ negation other ∷ []) ls) (at_most_one_of ls)
    (in_map (IsClause v) (IsAbout v) (λ other. negation l ∷ negation other ∷ []) ls (λ k b. two v (negation l) (negation k) (negation_about v l here) (negation_about v k b)) rest)
    (pairs_about v ls rest)

-- ---- the variables

abbrev pub IsStepOf : SendMapValue → ℕ → Type 0
IsStepOf m s = From 1 m.steps s

module _ (m : SendMapValue) where
  abbrev v : ℕ
  v = arrivals m + sends m

  abbrev About : LitValue → Type 0
  About = IsAbout v

  abbrev Clause : List LitValue → Type 0
  Clause = IsClause v

  pub arrival_about : (c n s : ℕ) → c < m.chunks → n < m.nodes → s ≤ m.steps → About (arrival m c n s)
  arrival_about c n s low few last = grind (arith, slot c n m.chunks m.nodes low few, slot (c * m.nodes + n) s (m.chunks * m.nodes) (m.steps + 1) (slot c n m.chunks m.nodes low few) (omega (arith, last)))

  pub sent_about : (c e s : ℕ) → c < m.chunks → e < length m.links → IsStepOf m s → About (sent m c e s)
  sent_about c e s low few step =
      let row = slot c e m.chunks (length m.links) low few in
      let below : s - 1 < m.steps = omega (arith, step.0, step.1) in
      let place = slot (c * length m.links + e) (s - 1) (m.chunks * length m.links) m.steps row below in
      record { some = omega arith; within = omega (arith, place) }

  before_about : (c n s : ℕ) → c < m.chunks → n < m.nodes → IsStep m.steps s → About (arrival m c n (s - 1))
  before_about c n s low few step = arrival_about c n (s - 1) low few (omega (arith, step.to))

  at_step : (s : ℕ) → IsStep m.steps s → IsStepOf m s
  at_step s step = (omega (arith, step.from), omega (arith, step.to))

  -- ---- the clauses

  over_about : (c s : ℕ) (z : ℕ × (ℕ × ℕ)) → c < m.chunks → IsLinkOf m z → IsStep m.steps s → All Clause (send_over m c z s)
  over_about c s (e, link) low at step = grind (arith, negation_about, sent_about, at_step, before_about, All-cons, two, only_clause, arrival_about)

  either : (b : Bool) (l : LitValue) → About l → About (if b then l else negation l)
  either true l a = a
  either false l a = negation_about v l a

  module _ (links : All (JoinsNodes m) m.links) where
    pub into_about : (c n s : ℕ) → c < m.chunks → IsStepOf m s → Clause (sends_into m c n s)
    into_about c n s low step = in_map About (IsLinkOf m) (λ (e, link). sent m c e s) (links_into m n) (λ z at. sent_about c z.0 s low at.number step) (All-filter _ (IsLinkOf m) (enumerate_from 0 m.links) (numbered_are m links))

    pub sending_about : (pre post : PlacementValue) → All Clause (sending m pre post)
    sending_about pre post = all_of_each m pre post Clause links (record {
      starts = λ c n cl nl. one v (if holds pre (c, n) then arrival m c n 0 else negation (arrival m c n 0)) (either (holds pre (c, n)) (arrival m c n 0) (arrival_about c n 0 cl nl (omega arith)));
      keeps = λ c n s cl nl step. two v (negation (arrival m c n (s - 1))) (arrival m c n s) (negation_about v (arrival m c n (s - 1)) (before_about c n s cl nl step)) (arrival_about c n s cl nl step.to);
      ends = λ c n cl nl _. one v (arrival m c n m.steps) (arrival_about c n m.steps cl nl (omega arith));
      sends = over_about;
      arrives = λ c n s cl nl step.
          All-cons About (arrival m c n (s - 1)) (negation (arrival m c n s) ∷ sends_into m c n s) (before_about c n s cl nl step)
          (All-cons About (negation (arrival m c n s)) (sends_into m c n s) (negation_about v (arrival m c n s) (arrival_about c n s cl nl step.to)) (into_about c n s cl (at_step s step)));
      once = λ c n s cl nl step. pairs_about v (sends_into m c n s) (into_about c n s cl (at_step s step));
    })
