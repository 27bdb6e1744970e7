use Rattle.candidate_formula.proofs.Copying.{copies}
use Rattle.engine_search.proofs.Searched.{as_large, same_formulas, within_alike}
use Rattle.engine_search.proofs.laws.a_search_asks_for_the_same_candidates.Goals as goal

pub returns : goal.returns
returns c = record { copies = λ q single. copies q.spec single; size = as_large; within = within_alike; formula = same_formulas }
