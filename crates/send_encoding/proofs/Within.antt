-- The variables of arrivals and sends are those of the map.
use Rattle.std.proofs.{Common.{ℕ, ◌+◌, ◌-◌, ◌<◌, ◌≤◌, ◌∷◌, length, arith}, lemmas.List.Elements.All-cons}
use Rattle.cnf_formula.{specs.{Literals.negation, Formulas.IsClause}, proofs.Clauses.negation_about}
use Rattle.schedule.specs.Sends.{IsStep}
use Rattle.cardinality.proofs.Wider.{clause_more}
use Rattle.send_encoding.{specs.{Variables.{SendMapValue, IsSendMap, arrival, arrivals, sent, sends}, Sending.sends_into}, proofs.About.{arrival_about, sent_about, into_about}}

pub arrival_within : (m : SendMapValue) (c n s : ℕ) → c < m.chunks → n < m.nodes → s ≤ m.steps → (arrival m c n s).var ≤ arrivals m + sends m
arrival_within m c n s low few last = let a = arrival_about m c n s low few last in omega (arith, a.within)

pub sent_within : (m : SendMapValue) (c e s : ℕ) → c < m.chunks → e < length m.links → IsStep m.steps s → (sent m c e s).var ≤ arrivals m + sends m
sent_within m c e s low few step = let a = sent_about m c e s low few (omega (arith, step.from), omega (arith, step.to)) in omega (arith, a.within)

-- the clause of a node that has a chunk
pub arrives_about : (v : ℕ) (m : SendMapValue) (c n s : ℕ) → IsSendMap m → arrivals m + sends m ≤ v → c < m.chunks → n < m.nodes → IsStep m.steps s → IsClause v (arrival m c n (s - 1) ∷ negation (arrival m c n s) ∷ sends_into m c n s)
arrives_about v m c n s ok le low few step = grind (arith, arrival_about, into_about, clause_more, All-cons, negation_about)

-- the sends of a chunk into a node
pub into_within : (v : ℕ) (m : SendMapValue) (c n s : ℕ) → IsSendMap m → arrivals m + sends m ≤ v → c < m.chunks → IsStep m.steps s → IsClause v (sends_into m c n s)
into_within v m c n s ok le low step = grind (arith, clause_more, into_about)
