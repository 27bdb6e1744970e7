-- What refuted candidates before a search refutes them still.
use Rattle.std.{proofs.Common.{◌≡◌, ◌≢◌, inl, inr, [], Contains, sym, ap, subst, ◌∙◌, arith, Bool, true, IsTrue, Some, not}, specs.List.Sorted.IsPermutation}
use Rattle.outer_ports.specs.{declared.part.Part.Part, Files.Files}
use Rattle.collective_spec.specs.declared.kind.Kind.TheVariants as kind
use Rattle.collective_spec.specs.Collectives.{kind_in}
use Rattle.proof_rules.specs.Refuting.{Refutes}
use Rattle.lrat_text.specs.Printing.{cnf_text}
use Rattle.candidate_order.specs.{declared.candidate.Candidate.Candidate, Frontiers.{QuestionValue, FrontierValue, IsTried}}
use Rattle.candidate_formula.specs.{Files.HasRefutation, Formulas.formula_for, Pruned.is_cut_away, Searched.searched_question}
use Rattle.engine_rules.specs.{declared.settled.Settled.{Settled, TheVariants.{Solved, Refuted, Unknown}}, Outcomes.{RecordValue, IsNew}}
use Rattle.node_cuts.specs.{declared.sets.Sets.Sets, Cutting.{is_cut, sets_for}}
use Rattle.cut_bounds.specs.Parting.{without_cuts}
use Rattle.pareto_search.{specs.Recorded.entries_of, proofs.Entries.{refuted_there, solved_there, unknown_there}}
use Rattle.engine_search.proofs.Recorded.{was_refuted}
use Rattle.candidate_solver.specs.Kept.{EngineState}
use Rattle.proof_audit.specs.Kept.{KeepsEach}
use Rattle.kept_proofs.specs.Keeping.{KeepingMoves, TakesUpEach}
use Rattle.frontier_audit.specs.Parts.{TakesUpPart}
use Rattle.report_search.proofs.{Recorded.alike, Uncut.{cut_in_place, from_filter, tried_below}}

-- the files refute a candidate of another question whose formula it has
refutes_alike : (part : Part) (p q : QuestionValue) (files : Files) (x : Candidate) → formula_for p x ≡ formula_for q x → HasRefutation part p files x → HasRefutation part q files x
refutes_alike part p q files x same has = record {
  formula = has.formula ∙ ap (λ f. Some (cnf_text f)) same;
  lines = has.lines;
  holds = record { bytes = has.holds.bytes; found = has.holds.found; short = has.holds.short; reads = has.holds.reads };
  refutes = subst (Refutes has.lines) same has.refutes;
}

-- what was tried is in the record
in_record : (f : FrontierValue) (entries : RecordValue) → IsPermutation entries (entries_of f) → (x : Candidate) → IsTried f x → (kind : Settled) × Contains entries (x, kind)
in_record f entries same x (inl point) = (Solved, solved_there f entries same x point)
in_record f entries same x (inr (inl refuted)) = (Refuted, refuted_there f entries same x refuted)
in_record f entries same x (inr (inr unknown)) = (Unknown, unknown_there f entries same x unknown)

-- nothing is in an empty record
all_new : (x : Candidate) → IsNew [] x
all_new x kind at = absurd (omega (arith, at.1))

module _ (q own : QuestionValue) (in_place : own ≡ searched_question q) (single : kind_in q.spec ≢ kind.Allreduce) where
  -- what is kept of the question that was searched is kept of the one that was asked
  keeps_for : (part : Part) (before after : Files) → KeepsEach part own before after → KeepsEach part q before after
  keeps_for part before after keeps x has = keeps x (refutes_alike part q own before x (sym (alike q own in_place single x)) has)

  module _ (sets : Sets) (same : (x : Candidate) → is_cut sets own x ≡ is_cut_away q x) where
    -- and so what is taken up
    takes_for : {f : FrontierValue} {part : Part} {entries : RecordValue} {before : Files} → IsPermutation entries (entries_of (without_cuts sets own f)) → TakesUpEach part own [] entries before → TakesUpPart part q f before
    takes_for {f} {part} {entries} {before} permuted takes x own_files has =
        let below = tried_below q own sets same f x own_files in
        let entry = in_record (without_cuts sets own f) entries permuted x below in
        let taken = takes x entry.0 entry.1 (all_new x) (refutes_alike part q own before x (sym (alike q own in_place single x)) has) in
        (from_filter (λ y. not (is_cut sets own y)) f.refuted x (was_refuted (without_cuts sets own f) entries permuted x taken)).0

-- as the code has it: by what the engine below changed
pub keeps_single : (q : QuestionValue) (before after : EngineState) (part : Part) (kept later : Bool) → before.question ≡ searched_question q → kind_in q.spec ≢ kind.Allreduce → before.part ≡ part → kept ≡ true → KeepingMoves kept later before after → IsTrue after.told → KeepsEach part q before.files after.files
keeps_single q before after part kept later made single of_part is_kept moves told =
    subst (λ p. KeepsEach p q before.files after.files) of_part (keeps_for q before.question made single before.part before.files after.files (moves.keeps is_kept told))

pub takes_single : (q now : QuestionValue) (before after : EngineState) (f : FrontierValue) (part : Part) (kept later : Bool) (sets : Sets) → before.question ≡ searched_question q → kind_in q.spec ≢ kind.Allreduce → now ≡ before.question → sets ≡ sets_for q.limits.pruning
    → IsPermutation after.entries (entries_of (without_cuts sets now f)) → before.part ≡ part → before.entries ≡ [] → kept ≡ true → KeepingMoves kept later before after → IsTrue after.told → TakesUpPart part q f before.files
takes_single q now before after f part kept later sets made single same asked permuted of_part none is_kept moves told =
    subst (λ p. TakesUpPart p q f before.files) of_part
    (takes_for q before.question made single sets (cut_in_place q before.question sets made asked) (subst (λ p. IsPermutation after.entries (entries_of (without_cuts sets p f))) same permuted)
    (subst (λ r. TakesUpEach before.part before.question r after.entries before.files) none (moves.takes is_kept told)))
