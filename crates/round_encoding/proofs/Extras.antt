-- The literals of a frame are about its own variables, those of arrivals and sends among them.
use Rattle.std.{proofs.Common.{ℕ, ◌+◌, ◌-◌, ◌<◌, ◌≤◌, List, [], ◌∷◌, length, map, arith, All}, specs.List.range_with_len}
use Rattle.schedule.specs.{Placed.PlacementValue, Sends.IsStep}
use Rattle.cnf_formula.{specs.{Literals.{LitValue, negation}, Formulas.{IsAbout, IsClause}}, proofs.Clauses.negation_about}
use Rattle.send_encoding.{specs.{Variables.{SendMapValue, arrival, arrivals, sent, sends, steps_of}, Sending.sending, Moving.JoinsNodes}, proofs.{Everywhere.{in_map, in_flat, From, in_range, slot}, About.{IsStepOf, two}}}
use Rattle.send_encoding.proofs.About as base
use Rattle.cardinality.proofs.Wider.{clauses_more, about_more}
use Rattle.round_encoding.specs.{Frames.{Frame, extra_round, own_variables}, Rounding.extra_in_order}

module _ (f : Frame) where
  abbrev m : SendMapValue
  m = f.map

  abbrev v : ℕ
  v = own_variables f

  abbrev About : LitValue → Type 0
  About = IsAbout v

  abbrev Clause : List LitValue → Type 0
  Clause = IsClause v

  pub arrival_about : (c n s : ℕ) → c < m.chunks → n < m.nodes → s ≤ m.steps → About (arrival m c n s)
  arrival_about c n s low few last = about_more (arrivals m + sends m) v (arrival m c n s) (omega arith) (base.arrival_about m c n s low few last)

  pub sent_about : (c e s : ℕ) → c < m.chunks → e < length m.links → IsStepOf m s → About (sent m c e s)
  sent_about c e s low few step = about_more (arrivals m + sends m) v (sent m c e s) (omega arith) (base.sent_about m c e s low few step)

  pub sending_about : (links : All (JoinsNodes m) m.links) (pre post : PlacementValue) → All Clause (sending m pre post)
  sending_about links pre post = clauses_more (arrivals m + sends m) v (sending m pre post) (omega arith) (base.sending_about m links pre post)

  pub extra_about : (s j : ℕ) → IsStepOf m s → From 1 f.extra j → About (extra_round f s j)
  extra_about s j step extra =
      let below : s - 1 < m.steps = omega (arith, step.0, step.1) in
      let few : j - 1 < f.extra = omega (arith, extra.0, extra.1) in
      let place = slot (s - 1) (j - 1) m.steps f.extra below few in
      record { some = omega arith; within = omega (arith, place) }

  steps : All (IsStepOf m) (steps_of m)
  steps = in_range 1 m.steps

  pub order_about : All Clause (extra_in_order f)
  order_about = in_flat Clause (IsStepOf m) (λ s. map (λ j. negation (extra_round f s (j + 1)) ∷ extra_round f s j ∷ []) (range_with_len 1 (f.extra - 1))) (steps_of m)
      (λ s step. in_map Clause (From 1 (f.extra - 1)) (λ j. negation (extra_round f s (j + 1)) ∷ extra_round f s j ∷ []) (range_with_len 1 (f.extra - 1))
      (λ j extra. two v (negation (extra_round f s (j + 1))) (extra_round f s j)
      (negation_about v (extra_round f s (j + 1)) (extra_about s (j + 1) step (omega arith, omega (arith, extra.0, extra.1))))
      (extra_about s j step (extra.0, omega (arith, extra.0, extra.1)))) (in_range 1 (f.extra - 1))) steps

pub extra_within : (m : SendMapValue) (extra s j : ℕ) → IsStep m.steps s → IsStep extra j → (extra_round (record { map = m; extra = extra }) s j).var ≤ own_variables (record { map = m; extra = extra })
extra_within m extra s j step number = (extra_about (record { map = m; extra = extra }) s j (omega (arith, step.from), omega (arith, step.to)) (omega (arith, number.from), omega (arith, number.to))).within
