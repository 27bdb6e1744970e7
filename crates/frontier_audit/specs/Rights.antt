-- What a report says, and when that is right (Cai et al., PPoPP 2021, Pareto-optimal schedules and allreduce).
use Rattle.std.specs.Prelude.{◌≡◌, false, List, [], ◌∷◌, All}
use Rattle.outer_ports.specs.declared.part.Part.{Part, TheVariants.{Reduce, Gather}}
use Rattle.proof_rules.specs.Refuting.{Exhausted}
use Rattle.allreduce_join.specs.Joins.{Joins}
use Rattle.candidate_order.specs.Frontiers.{FrontierValue, RightFrontier, Searched}
use Rattle.report_form.specs.Reports.{ReportValue, IsReport, question_of}
use Rattle.candidate_formula.specs.{Formulas.{formula_for, Suits}, Searched.{copying_schedule, searched_question}, Pruned.is_cut_away}
use Rattle.proof_audit.specs.Files.{HasSpentLog}

-- the joined points are the joins of the two parts of an allreduce
abbrev pub AreJoined : ReportValue → List (Part × FrontierValue) → Type 0
AreJoined r ((Reduce, f) ∷ (Gather, h) ∷ []) = Joins r.topology.topology f.points h.points r.joined
AreJoined r _ = r.joined ≡ []

pub record IsRight (r : ReportValue) : Type 0 where
  pub valid : IsReport r
  pub parts : All (λ x. RightFrontier (question_of r.words r.topology x.0) x.1) r.frontiers
  pub joined : AreJoined r r.frontiers

-- each frontier is as a search leaves it: the formula of each unknown candidate is exhausted by the conflicts that are stated, no unknown candidate is cut away, and each schedule, as what is searched has it, is as the words ask beside solving
pub record IsSearched (r : ReportValue) : Type 0 where
  pub parts : All (λ x. Searched (question_of r.words r.topology x.0) x.1) r.frontiers
  pub exhausted : All (λ x. All (λ u. Exhausted (formula_for (question_of r.words r.topology x.0) u.candidate) u.conflicts) x.1.unknown) r.frontiers
  pub uncut : All (λ x. All (λ u. is_cut_away (question_of r.words r.topology x.0) u.candidate ≡ false) x.1.unknown) r.frontiers
  pub suited : All (λ x. let q = question_of r.words r.topology x.0 in All (λ p. Suits (searched_question q) p.candidate (copying_schedule q.spec p.schedule)) x.1.points) r.frontiers

-- there is a spent log of the formula of each unknown candidate
abbrev pub HasLogs : ReportValue → Type 0
HasLogs r = All (λ x. All (λ u. HasSpentLog (formula_for (question_of r.words r.topology x.0) u.candidate) u.conflicts) x.1.unknown) r.frontiers
