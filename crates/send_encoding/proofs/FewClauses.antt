-- Arrivals and sends have few clauses.
use Rattle.std.proofs.{Common.{◌≡◌, ℕ, ◌+◌, ◌*◌, ◌≤◌, List, ◌++◌, length, map, ap, sym, ◌∙◌, arith, length-append, flat_map}, Math.Nat.{mul_assoc, mul-add}, lemmas.{List.{length-map, Sums.{length-filter, count_by-le-length}}, Nat.mul-le}}
use Rattle.std.{proofs.lemmas.List.FromFn.{length-range_with_len, length-map-range_with_len, length-enumerate_from}, specs.List.{range_with_len, enumerate_from}}
use Rattle.schedule.specs.{Links.TopologyValue, Placed.{all_pairs, PlacementValue}}
use Rattle.cnf_formula.specs.Literals.{LitValue}
use Rattle.cardinality.{specs.Counting.at_most_one_of, proofs.{FewClauses.pairs_are_few, Lengths.flat_length}}
use Rattle.send_encoding.specs.{Variables.{SendMapValue, map_of, steps_of, links_into, sends}, Sending.{at_start, keeps, at_end, send_over, sends_arrive, sends_into, arrives_by_sends, arrives_once, sending}}
use Rattle.send_encoding.proofs.{Entering.few_enter, Grid.rows_length}

six_lists : {X : Type 0} (a b c d e f : List X) → length (a ++ b ++ c ++ d ++ e ++ f) ≡ length a + length b + length c + length d + length e + length f
six_lists a b c d e f = grind (arith, length-append)

spread : (a s q : ℕ) → a * (2 + s * (2 + q)) ≡ a * 2 + (a * s * 2 + a * (s * q))
spread a s q = grind (arith, mul-add, mul_assoc)

module _ (m : SendMapValue) where
  abbrev cells : ℕ
  cells = m.chunks * m.nodes

  all_cells : length (all_pairs m.chunks m.nodes) ≡ cells
  all_cells = rows_length (λ c. map (λ n. (c, n)) (range_with_len 0 m.nodes)) m.nodes 0 m.chunks (λ c. length-map-range_with_len (λ n. (c, n)) 0 m.nodes)

  all_steps : length (steps_of m) ≡ m.steps
  all_steps = length-range_with_len 1 m.steps

  many_starts : (pre : PlacementValue) → length (at_start m pre) ≡ cells
  many_starts pre = length-map (all_pairs m.chunks m.nodes) _ ∙ all_cells

  few_keeps : length (keeps m) ≤ cells * m.steps
  few_keeps = grind (arith, length-map, all_steps, flat_length, all_cells)

  few_ends : (post : PlacementValue) → length (at_end m post) ≤ cells
  few_ends post = grind (arith, length-map, length-filter, count_by-le-length, all_cells)

  few_sends : length (sends_arrive m) ≤ sends m * 3
  few_sends =
      let links : ℕ = length m.links in
      let over : ℕ → ℕ × (ℕ × ℕ) → List (List LitValue) = λ c link. flat_map (send_over m c link) (steps_of m) in
      let link_few : (c : ℕ) (link : ℕ × (ℕ × ℕ)) → length (over c link) ≤ m.steps * 3 = λ c link. omega (arith, flat_length (send_over m c link) 3 (steps_of m) (λ s. omega arith), all_steps) in
      let chunk_few : (c : ℕ) → length (flat_map (over c) (enumerate_from 0 m.links)) ≤ links * (m.steps * 3) =
      λ c. omega (arith, flat_length (over c) (m.steps * 3) (enumerate_from 0 m.links) (link_few c), ap (λ n. n * (m.steps * 3)) (length-enumerate_from 0 m.links)) in
      let all = flat_length (λ c. flat_map (over c) (enumerate_from 0 m.links)) (links * (m.steps * 3)) (range_with_len 0 m.chunks) chunk_few in
      let product : m.chunks * (links * (m.steps * 3)) ≡ sends m * 3 = sym (mul_assoc m.chunks links (m.steps * 3)) ∙ sym (mul_assoc (m.chunks * links) m.steps 3) in
      omega (arith, all, ap (λ n. n * (links * (m.steps * 3))) (length-range_with_len 0 m.chunks), product)

  few_arrivals : length (arrives_by_sends m) ≤ cells * m.steps
  few_arrivals = grind (arith, length-map, all_steps, flat_length, all_cells)

  module _ (few_into : (n : ℕ) → length (links_into m n) ≤ m.nodes) where
    few_pairs : (c n s : ℕ) → length (at_most_one_of (sends_into m c n s)) ≤ m.nodes * m.nodes
    few_pairs c n s = grind (arith, length-map, mul-le, pairs_are_few)

    few_once : length (arrives_once m) ≤ cells * (m.steps * (m.nodes * m.nodes))
    few_once = grind (arith, flat_length, few_pairs, all_steps, all_cells)

    few_sending : (pre post : PlacementValue) → length (sending m pre post) ≤ cells * (2 + m.steps * (2 + m.nodes * m.nodes)) + sends m * 3
    few_sending pre post = grind (arith, few_arrivals, few_ends, few_keeps, few_once, few_sends, many_starts, six_lists, spread)

pub few_clauses : (t : TopologyValue) (pre post : PlacementValue) (steps : ℕ)
    → length (sending (map_of t pre steps) pre post) ≤ pre.chunks * t.nodes * (2 + steps * (2 + t.nodes * t.nodes)) + sends (map_of t pre steps) * 3
few_clauses t pre post steps = few_sending (map_of t pre steps) (few_enter t pre steps) pre post
