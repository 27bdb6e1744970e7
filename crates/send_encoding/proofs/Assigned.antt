-- The assignment that gives each arrival and each send its value.
use Rattle.std.proofs.{Common.{◌≡◌, ℕ, ◌+◌, ◌-◌, ◌*◌, ◌<◌, ◌≤◌, Bool, false, List, ◌++◌, length, get_or, ap, ◌∙◌, arith, length-append}, lemmas.List.{get_or-append-add, get_or_append_left}}
use Rattle.schedule.specs.Sends.{IsStep}
use Rattle.cnf_formula.specs.Literals.{is_true}
use Rattle.send_encoding.{specs.{Variables.{SendMapValue, arrival, arrivals, sent, sends}, Assigning.{arrival_values, send_values, assigned}}, proofs.{Everywhere.slot, Grid.{cube_length, cube_at}}}

module _ (m : SendMapValue) (a x : ℕ → ℕ → ℕ → Bool) (rest : List Bool) where
  held_length : length (arrival_values m a) ≡ arrivals m
  held_length = cube_length a m.chunks m.nodes 0 (m.steps + 1)

  moved_length : length (send_values m x) ≡ sends m
  moved_length = cube_length x m.chunks (length m.links) 1 m.steps

  pub assigned_length : length (assigned m a x rest) ≡ arrivals m + sends m + length rest
  assigned_length = length-append (arrival_values m a ++ send_values m x) rest ∙ omega (arith, length-append (arrival_values m a) (send_values m x), held_length, moved_length)

  pub arrival_value : (c n s : ℕ) → c < m.chunks → n < m.nodes → s ≤ m.steps → is_true (assigned m a x rest) (arrival m c n s) ≡ a c n s
  arrival_value c n s cl nl sl =
      let k : ℕ = (c * m.nodes + n) * (m.steps + 1) + s in
      let few : s < m.steps + 1 = omega (arith, sl) in
      let row = slot c n m.chunks m.nodes cl nl in
      let inside : k < arrivals m = slot (c * m.nodes + n) s (m.chunks * m.nodes) (m.steps + 1) row few in
      let place : 1 + (c * m.nodes + n) * (m.steps + 1) + s - 1 ≡ k = omega arith in
      let zero : 0 + s ≡ s = omega arith in
      ap (λ p. get_or (assigned m a x rest) p false) place
      ∙ get_or_append_left (arrival_values m a ++ send_values m x) rest false k (omega (arith, inside, length-append (arrival_values m a) (send_values m x), held_length))
      ∙ get_or_append_left (arrival_values m a) (send_values m x) false k (omega (arith, inside, held_length))
      ∙ cube_at a m.chunks m.nodes 0 (m.steps + 1) c n s false cl nl few ∙ ap (a c n) zero

  pub sent_value : (c e s : ℕ) → c < m.chunks → e < length m.links → IsStep m.steps s → is_true (assigned m a x rest) (sent m c e s) ≡ x c e s
  sent_value c e s cl el step =
      let k : ℕ = (c * length m.links + e) * m.steps + (s - 1) in
      let few : s - 1 < m.steps = omega (arith, step.from, step.to) in
      let row = slot c e m.chunks (length m.links) cl el in
      let inside : k < sends m = slot (c * length m.links + e) (s - 1) (m.chunks * length m.links) m.steps row few in
      let place : arrivals m + 1 + (c * length m.links + e) * m.steps + (s - 1) - 1 ≡ length (arrival_values m a) + k = omega (arith, held_length) in
      let one : 1 + (s - 1) ≡ s = omega (arith, step.from) in
      ap (λ p. get_or (assigned m a x rest) p false) place
      ∙ get_or_append_left (arrival_values m a ++ send_values m x) rest false (length (arrival_values m a) + k) (omega (arith, inside, length-append (arrival_values m a) (send_values m x), moved_length))
      ∙ get_or-append-add (arrival_values m a) (send_values m x) k false
      ∙ cube_at x m.chunks (length m.links) 1 m.steps c e (s - 1) false cl el few ∙ ap (x c e) one

  pub own_length : length (arrival_values m a ++ send_values m x) ≡ arrivals m + sends m
  own_length = length-append (arrival_values m a) (send_values m x) ∙ omega (arith, held_length, moved_length)
