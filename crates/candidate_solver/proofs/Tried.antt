-- What a try at a candidate says, and the files that it leaves.
use Rattle.std.proofs.{Common.{◌≡◌, ℕ, ◌+◌, ◌≤◌, Bool, List, length, sym, ap, ◌∙◌, subst, arith, Some, map}, lemmas.Bool.Decides.nat_tests}
use Rattle.schedule.specs.{Links.TopologyValue, Placed.PlacementValue, Sends.ScheduleValue}
use Rattle.cnf_formula.specs.{Formulas.{FormulaValue, Satisfies}, Lines.ProofLineValue, declared.line.LratLine.TheVariants.Addition}
use Rattle.proof_rules.{specs.{Held.start_of, Refuting.Refutes, Learning.AllImplied}, proofs.InTurn.learned_in_turn}
use Rattle.lrat_text.specs.Printing.{cnf_text}
use Rattle.outer_ports.specs.{declared.{part.Part.Part, proof_name.FileKind.{FileKind, TheVariants.Cnf}}, Files.Files}
use Rattle.conflict_ledger.specs.Shelved.{log_text}
use Rattle.sat_core.{specs.declared.solving.SatAnswer.SatAnswer, proofs.Ending.all_learned}
use Rattle.sat_core.specs.declared.solving.SatAnswer.TheVariants as answer
use Rattle.round_encoding.specs.{declared.encoding.Encoding.Encoding, Candidates.{IsEncodingOf, IsTightSolution}, Decoding.decoded}
use Rattle.candidate_order.specs.{declared.{candidate.Candidate.Candidate, outcome.Outcome.Outcome}, Frontiers.{QuestionValue, instance_for}}
use Rattle.candidate_order.specs.declared.outcome.Outcome.TheVariants as outcome
use Rattle.candidate_formula.{specs.{Files.{file_of, HoldsLines}, Encodings.schedule_said, Formulas.{formula_for, Suits}, Questions.IsSmallQuestion}, proofs.Exact.tight_solves}
use Rattle.candidate_solver.{specs.{Kept.HasFiles, Trying.{HasText, HasLines, IsTidy, IsSearch, Says, IsOutcome}}, proofs.Readable.{IsSmall, holds_lines}}
use Rattle.engine_rules.specs.Outcomes.{kind_of, SpentOn}

-- ---- what outcomes say

schedule_in : ScheduleValue → Outcome → ScheduleValue
schedule_in d (outcome.Solved schedule) = schedule
schedule_in d outcome.Refuted = d
schedule_in d (outcome.Unknown n) = d

pub says_solved : (e : Encoding) (said : SatAnswer) (limit : ℕ) (values : List Bool) (s : ScheduleValue) → said ≡ answer.Model values → s ≡ decoded (record { map = e.map; extra = e.extra }) values
    → ((t : TopologyValue) (pre post : PlacementValue) (steps rounds : ℕ) → IsEncodingOf t pre post steps rounds e → IsTightSolution t pre post s steps rounds) → Says e said limit (outcome.Solved s)
unfolding schedule_in
says_solved e said limit values s model is h = grind (arith, nat_tests, schedule_in)

pub outcome_by : (q : QuestionValue) (x : Candidate) (e : Encoding) (f : FormulaValue) (lines : List ProofLineValue) (said : SatAnswer) (limit : ℕ) (out : Outcome) → IsSmallQuestion q → f ≡ formula_for q x → limit ≡ q.limits.conflicts
    → IsEncodingOf q.topology (instance_for q x).pre (instance_for q x).post x.s x.r e → ((values : List Bool) → Satisfies values f → Suits q x (schedule_said e values)) → IsSearch f limit lines said → Says e said limit out → IsOutcome q x (formula_for q x) lines out
outcome_by q x e f lines said limit out small same limited is suits search says = record {
  solved = λ schedule o.
      let tight = says.solved schedule o q.topology (instance_for q x).pre (instance_for q x).post x.s x.r is in
      record { solves = tight_solves q x schedule small.copies tight; tight = tight.tight };
  suits = λ schedule o.
      let found = says.by_model schedule o in
      subst (Suits q x) (sym found.2) (suits found.0 (search.model found.0 found.1));
  refuted = λ o. subst (Refutes (map Addition lines)) same (search.refuted (says.refuted o)).refutes;
  unknown = λ n o.
      let u = says.unknown n o in (
        u.1 ∙ limited,
        subst (λ g. SpentOn g lines n) same (subst (SpentOn f lines) (sym u.1) (search.spent u.0)),
      );
}

-- ---- the files that it leaves

-- the formula and the lines of a search, of which the files were tidied
pub record IsLeft (q : QuestionValue) (part : Part) (x : Candidate) (f : FormulaValue) (lines : List ProofLineValue) (said : SatAnswer) (middle now : Files) : Type 0 where
  pub same : f ≡ formula_for q x
  pub small : IsSmall f
  pub limited : q.limits.conflicts ≤ 100000
  pub text : HasText f part x middle
  pub kept : now (file_of Cnf part x) ≡ middle (file_of Cnf part x)
  pub has : HasLines part x lines middle
  pub implied : AllImplied (start_of f) lines
  pub search : IsSearch f q.limits.conflicts lines said

-- so the candidate has the files of its outcome
module _ (q : QuestionValue) (part : Part) (x : Candidate) (f : FormulaValue) (lines : List ProofLineValue) (said : SatAnswer) (middle now : Files) (left : IsLeft q part x f lines said middle now) where
  formula_left : now (file_of Cnf part x) ≡ Some (cnf_text (formula_for q x))
  formula_left = left.kept ∙ left.text ∙ ap (λ g. Some (cnf_text g)) left.same

  lines_left : (kind : FileKind) → length lines ≤ q.limits.conflicts + 1 → now (file_of kind part x) ≡ Some (log_text lines) → HoldsLines now (file_of kind part x) (map Addition lines)
  lines_left kind few found = grind (arith, nat_tests, holds_lines)

  pub has_files : (e : Encoding) (out : Outcome) → Says e said q.limits.conflicts out → IsTidy (kind_of out) part x middle now → HasFiles part q now (x, kind_of out)
  has_files e (outcome.Solved s) says tidy = grind (arith, nat_tests, formula_left)
  has_files e outcome.Refuted says tidy = grind (arith, nat_tests, formula_left, lines_left)
  has_files e (outcome.Unknown n) says tidy = grind (arith, nat_tests, all_learned, learned_in_turn, formula_left, lines_left)
