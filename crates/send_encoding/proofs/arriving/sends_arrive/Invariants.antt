use Rattle.std.{proofs.Common.{◌≡◌, take}, specs.List.{flat_map, range_with_len, enumerate_from}}
use Rattle.cnf_formula.specs.Formulas.{with_clauses}
use Rattle.send_encoding.specs.{Variables.{steps_of}, Sending.send_over}
use Rattle.send_encoding.proofs.arriving.sends_arrive.Given as goal

abbrev pub invariant-loop-chunk : goal.invariant-loop-chunk
invariant-loop-chunk l = l.formula ≡ with_clauses l.initial.formula (flat_map (λ c. flat_map (λ link. flat_map (send_over l.map c link) (steps_of l.map)) (enumerate_from 0 l.map.links)) (range_with_len 0 l.chunk))

abbrev pub invariant-loop-number : goal.invariant-loop-number
invariant-loop-number l = l.formula ≡ with_clauses l.initial.formula (flat_map (λ link. flat_map (send_over l.map l.chunk link) (steps_of l.map)) (take l.number (enumerate_from 0 l.link-items)))

abbrev pub invariant-loop-index : goal.invariant-loop-index
invariant-loop-index l = l.formula ≡ with_clauses l.initial.formula (flat_map (send_over l.map l.chunk (l.number, l.link)) (range_with_len 1 l.index))
