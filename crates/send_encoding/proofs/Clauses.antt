-- What holds of each clause of arrivals and sends holds of all of them.
use Rattle.std.proofs.{Common.{◌≡◌, ℕ, ◌+◌, ◌-◌, ◌<◌, true, List, [], ◌∷◌, ◌++◌, length, get_or, sym, ap, ◌∙◌, arith, if◌then◌else◌, flat_map, filter, All}, lemmas.List.{get_or_default, Elements.All-append}}
use Rattle.std.{proofs.lemmas.List.FromFn.{length-enumerate_from, get_or-enumerate_from}, specs.List.{range_with_len, enumerate_from}}
use Rattle.schedule.{specs.{Placed.{all_pairs, PlacementValue, holds}, Sends.IsStep}, proofs.{Placing.all_below, First.{Among, Among-from_Contains}}}
use Rattle.cnf_formula.specs.Literals.{LitValue, negation}
use Rattle.cardinality.specs.Counting.{at_most_one_of}
use Rattle.send_encoding.specs.{Variables.{SendMapValue, steps_of, arrival}, Moving.{IsLinkOf, JoinsNodes}, inner.Parts.{node_keeps, node_arrives, node_once}}
use Rattle.send_encoding.{specs.Sending.{at_start, keeps, at_end, send_over, sends_arrive, sends_into, arrives_by_sends, arrives_once, sending}, proofs.{Everywhere.{by_recursion, in_map, in_flat, in_numbers, From, in_range}, Members.kept}}

abbrev pub InGrid : SendMapValue → ℕ × ℕ → Type 0
InGrid m pair = (pair.0 < m.chunks) × (pair.1 < m.nodes)

pub numbered_are : (m : SendMapValue) → All (JoinsNodes m) m.links → All (IsLinkOf m) (enumerate_from 0 m.links)
numbered_are m links = λ k d h.
    let z = in_numbers (JoinsNodes m) m.links 0 (length m.links) (omega arith) links k d h in
    let low : k < length m.links = omega (arith, h, length-enumerate_from 0 m.links) in
    let at : get_or (enumerate_from 0 m.links) k d ≡ (0 + k, get_or m.links k d.1) = get_or-enumerate_from 0 m.links k d low in
    let zero : 0 + k ≡ k = omega arith in
    let number : (get_or (enumerate_from 0 m.links) k d).0 ≡ k = ap (λ w. w.0) at ∙ zero in
    let same : get_or m.links k d.1 ≡ get_or m.links k (0, 0) = get_or_default m.links k d.1 (0, 0) low in
    record { number = z.0; from = z.1.0; to = z.1.1; is = ap (λ w. w.1) at ∙ same ∙ ap (λ n. get_or m.links n (0, 0)) (sym number) }

pub link_listed : (m : SendMapValue) (z : ℕ × (ℕ × ℕ)) → IsLinkOf m z → Among z (enumerate_from 0 m.links)
link_listed m z at =
    let zero : 0 + z.0 ≡ z.0 = omega arith in
    let link : get_or m.links z.0 z.1 ≡ z.1 = get_or_default m.links z.0 z.1 (0, 0) at.number ∙ sym at.is in
    let is : get_or (enumerate_from 0 m.links) z.0 z ≡ z = get_or-enumerate_from 0 m.links z.0 z at.number ∙ ap (λ n. (n, get_or m.links z.0 z.1)) zero ∙ ap (λ l. (z.0, l)) link in
    Among-from_Contains z (enumerate_from 0 m.links) (z.0, omega (arith, at.number, length-enumerate_from 0 m.links), is)

-- of each clause, by its place
pub record Each (m : SendMapValue) (pre post : PlacementValue) (P : List LitValue → Type 0) : Type 0 where
  pub starts : (c n : ℕ) → c < m.chunks → n < m.nodes → P ((if holds pre (c, n) then arrival m c n 0 else negation (arrival m c n 0)) ∷ [])
  pub keeps : (c n s : ℕ) → c < m.chunks → n < m.nodes → IsStep m.steps s → P (negation (arrival m c n (s - 1)) ∷ arrival m c n s ∷ [])
  pub ends : (c n : ℕ) → c < m.chunks → n < m.nodes → holds post (c, n) ≡ true → P (arrival m c n m.steps ∷ [])
  pub sends : (c s : ℕ) (z : ℕ × (ℕ × ℕ)) → c < m.chunks → IsLinkOf m z → IsStep m.steps s → All P (send_over m c z s)
  pub arrives : (c n s : ℕ) → c < m.chunks → n < m.nodes → IsStep m.steps s → P (arrival m c n (s - 1) ∷ negation (arrival m c n s) ∷ sends_into m c n s)
  pub once : (c n s : ℕ) → c < m.chunks → n < m.nodes → IsStep m.steps s → All P (at_most_one_of (sends_into m c n s))

module _ (m : SendMapValue) (pre post : PlacementValue) (P : List LitValue → Type 0) where
  grid : All (InGrid m) (all_pairs m.chunks m.nodes)
  grid = by_recursion (InGrid m) (all_pairs m.chunks m.nodes) (all_below m.chunks m.nodes)

  steps : All (IsStep m.steps) (steps_of m)
  steps = λ k d low. let at = in_range 1 m.steps k d low in record { from = omega (arith, at.0); to = omega (arith, at.1) }

  of_nodes : (g : ℕ × ℕ → List (List LitValue)) → ((c n : ℕ) → c < m.chunks → n < m.nodes → All P (g (c, n))) → All P (flat_map g (all_pairs m.chunks m.nodes))
  of_nodes g h = in_flat P (InGrid m) g (all_pairs m.chunks m.nodes) (λ x at. h x.0 x.1 at.0 at.1) grid

  pub all_of_each : All (JoinsNodes m) m.links → Each m pre post P → All P (sending m pre post)
  all_of_each links each =
      let a : All P (at_start m pre) = in_map P (InGrid m) (λ (c, n). (if holds pre (c, n) then arrival m c n 0 else negation (arrival m c n 0)) ∷ []) (all_pairs m.chunks m.nodes) (λ x at. each.starts x.0 x.1 at.0 at.1) grid in
      let b : All P (keeps m) = of_nodes (node_keeps m) (λ c n cl nl. in_map P (IsStep m.steps) (λ s. negation (arrival m c n (s - 1)) ∷ arrival m c n s ∷ []) (steps_of m) (λ s step. each.keeps c n s cl nl step) steps) in
      let e : All P (at_end m post) =
      in_map P (λ x. InGrid m x × (holds post x ≡ true)) (λ (c, n). arrival m c n m.steps ∷ []) (filter (holds post) (all_pairs m.chunks m.nodes)) (λ x at. each.ends x.0 x.1 at.0.0 at.0.1 at.1) (kept (holds post) (InGrid m) (all_pairs m.chunks m.nodes) grid) in
      let f : All P (sends_arrive m) =
      in_flat P (From 0 m.chunks) (λ c. flat_map (λ z. flat_map (send_over m c z) (steps_of m)) (enumerate_from 0 m.links)) (range_with_len 0 m.chunks) (λ c low.
      in_flat P (IsLinkOf m) (λ z. flat_map (send_over m c z) (steps_of m)) (enumerate_from 0 m.links) (λ z at. in_flat P (IsStep m.steps) (send_over m c z) (steps_of m) (λ s step. each.sends c s z (omega (arith, low.1)) at step) steps) (numbered_are m links)) (in_range 0 m.chunks) in
      let g : All P (arrives_by_sends m) = of_nodes (node_arrives m) (λ c n cl nl.
      in_map P (IsStep m.steps) (λ s. arrival m c n (s - 1) ∷ negation (arrival m c n s) ∷ sends_into m c n s) (steps_of m) (λ s step. each.arrives c n s cl nl step) steps) in
      let h : All P (arrives_once m) = of_nodes (node_once m) (λ c n cl nl. in_flat P (IsStep m.steps) (λ s. at_most_one_of (sends_into m c n s)) (steps_of m) (λ s step. each.once c n s cl nl step) steps) in
      All-append P (at_start m pre ++ keeps m ++ at_end m post ++ sends_arrive m ++ arrives_by_sends m) (arrives_once m)
      (All-append P (at_start m pre ++ keeps m ++ at_end m post ++ sends_arrive m) (arrives_by_sends m)
      (All-append P (at_start m pre ++ keeps m ++ at_end m post) (sends_arrive m) (All-append P (at_start m pre ++ keeps m) (at_end m post) (All-append P (at_start m pre) (keeps m) a b) e) f) g) h
