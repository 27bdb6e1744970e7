-- The three lists of a frontier in a record that has its entries in any order.
use Rattle.std.{proofs.{Common.{◌++◌, map, Contains}, lemmas.List.{Elements.{Contains-append_left, Contains-append_right}, Sorted.{Contains-permutation, IsPermutation-sym}}}, specs.List.Sorted.IsPermutation}
use Rattle.list_laws.proofs.Members.{Contains-map}
use Rattle.candidate_order.specs.{declared.candidate.Candidate.Candidate, Frontiers.{FrontierValue, solved, given_up}}
use Rattle.engine_rules.specs.{declared.settled.Settled.{Settled, TheVariants.{Solved, Refuted, Unknown}}, Outcomes.RecordValue}
use Rattle.pareto_search.specs.Recorded.{entries_of}

abbrev pub with : Settled → Candidate → Candidate × Settled
with kind = λ x. (x, kind)

module _ (f : FrontierValue) (entries : RecordValue) (same : IsPermutation entries (entries_of f)) where
  back : (e : Candidate × Settled) → Contains (entries_of f) e → Contains entries e
  back e at = Contains-permutation (entries_of f) entries e (IsPermutation-sym entries (entries_of f) same) at

  pub solved_there : (x : Candidate) → Contains (solved f) x → Contains entries (with Solved x)
  solved_there x at =
      back (with Solved x) (Contains-append_left (map (with Solved) (solved f) ++ map (with Refuted) f.refuted) (map (with Unknown) (given_up f)) (with Solved x)
      (Contains-append_left (map (with Solved) (solved f)) (map (with Refuted) f.refuted) (with Solved x) (Contains-map (with Solved) (solved f) x at)))

  pub refuted_there : (x : Candidate) → Contains f.refuted x → Contains entries (with Refuted x)
  refuted_there x at =
      back (with Refuted x) (Contains-append_left (map (with Solved) (solved f) ++ map (with Refuted) f.refuted) (map (with Unknown) (given_up f)) (with Refuted x)
      (Contains-append_right (map (with Solved) (solved f)) (map (with Refuted) f.refuted) (with Refuted x) (Contains-map (with Refuted) f.refuted x at)))

  pub unknown_there : (x : Candidate) → Contains (given_up f) x → Contains entries (with Unknown x)
  unknown_there x at =
      back (with Unknown x) (Contains-append_right (map (with Solved) (solved f) ++ map (with Refuted) f.refuted) (map (with Unknown) (given_up f)) (with Unknown x) (Contains-map (with Unknown) (given_up f) x at))
