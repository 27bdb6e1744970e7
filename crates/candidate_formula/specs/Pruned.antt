-- What a search leaves out, and which candidates have files of their own. This project's own.
use Rattle.std.specs.{Prelude.{◌≡◌, Bool, false}, Option.is_some}
use Rattle.candidate_order.specs.{declared.candidate.Candidate.Candidate, Frontiers.{QuestionValue, FrontierValue, IsTried}}
use Rattle.node_cuts.specs.Cutting.{sets_for, cut_in}
use Rattle.candidate_formula.specs.Formulas.{searched_on}

-- where candidates that a set of nodes refutes are left out, some set refutes this one over the links that are searched
abbrev pub is_cut_away : QuestionValue → Candidate → Bool
is_cut_away q x = is_some (cut_in (sets_for q.limits.pruning) (searched_on q) q.spec x)

-- the candidate was tried, and no set of nodes settled it, so that it was searched by its formula
pub record HasOwnFiles (q : QuestionValue) (f : FrontierValue) (x : Candidate) : Type 0 where
  pub tried : IsTried f x
  pub uncut : is_cut_away q x ≡ false
