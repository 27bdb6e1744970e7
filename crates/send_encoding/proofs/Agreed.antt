-- Where the clauses of arrivals and sends hold, the run of a schedule of the sends that are true holds the arrivals.
use Rattle.std.proofs.Common.{◌≡◌, ℕ, ◌≤◌, Bool, true, List, ◌∙◌, arith, sym, ◌<◌, All, AllPairs}
use Rattle.schedule.{specs.{Placed.{PlacementValue, IsPlacement}, Sends.ScheduleValue, Running.after, Solving.Tight}, proofs.{Placing.{same_placement, placement-placed, holds-placed}, Stepping.{chunks-after, nodes-after, placement-after}}}
use Rattle.cnf_formula.specs.Literals.{is_true, all_hold}
use Rattle.send_encoding.specs.{Variables.{SendMapValue, arrival, sent}, Sending.sending, Sent.{sends_of, arrived}, Moving.JoinsNodes}
use Rattle.send_encoding.proofs.{Sound.sending_says, Decoded.sends_tell, Running.run_is, Ascending.{LinkBefore, sends_ascend}, Tightened.is_tight}

module _ (m : SendMapValue) (pre post : PlacementValue) (values : List Bool) (rounds : List ℕ) (chunks : pre.chunks ≡ m.chunks) (nodes : pre.nodes ≡ m.nodes) (links : All (JoinsNodes m) m.links) (ascend : AllPairs LinkBefore m.links)
    (all : all_hold values (sending m pre post) ≡ true) where
  abbrev s : ScheduleValue
  s = record { rounds = rounds; sends = sends_of m values }

  pub sent_tightly : Tight pre s
  sent_tightly = is_tight m pre post (λ c n k. is_true values (arrival m c n k)) (λ c e k. is_true values (sent m c e k)) s chunks nodes links (sending_says m pre post values all) (sends_tell m values links) (sends_ascend m values ascend)

  pub run_arrives : IsPlacement pre → (k : ℕ) → k ≤ m.steps → after pre s k ≡ arrived m values k
  run_arrives ok k low =
      let c = chunks-after pre s k ∙ chunks in
      let n = nodes-after pre s k ∙ nodes in
      same_placement (after pre s k) (arrived m values k) (placement-after pre s k ok) (placement-placed m.chunks m.nodes (λ (c, n). is_true values (arrival m c n k))) c n
      (λ pair cl nl.
      let cb : pair.0 < m.chunks = omega (arith, cl, c) in
      let nb : pair.1 < m.nodes = omega (arith, nl, n) in
      run_is m pre post (λ c n k. is_true values (arrival m c n k)) (λ c e k. is_true values (sent m c e k)) s chunks nodes links (sending_says m pre post values all) (sends_tell m values links) k pair.0 pair.1 low cb nb
      ∙ sym (holds-placed m.chunks m.nodes (λ (c, n). is_true values (arrival m c n k)) pair cb nb))
