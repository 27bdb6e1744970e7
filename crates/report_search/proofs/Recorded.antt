-- What an engine's record says of the files, for the question in whose place it searched.
use Rattle.std.{proofs.{Common.{◌≡◌, ◌≢◌, ◌⊎◌, inl, inr, IsTrue, false, All, Contains, None, Some, refl, sym, ap, subst, ◌∙◌}, lemmas.List.Elements.{All-contains, All-weaker}}, specs.List.Sorted.IsPermutation}
use Rattle.list_laws.proofs.{Each.all_contained, Members.Contains-map}
use Rattle.outer_ports.specs.{declared.{part.Part.Part, proof_name.ProofName.ProofName}, Files.Files}
use Rattle.collective_spec.specs.declared.kind.Kind.TheVariants as kind
use Rattle.collective_spec.specs.Collectives.{kind_in}
use Rattle.candidate_order.specs.{declared.candidate.Candidate.Candidate, Frontiers.{QuestionValue, FrontierValue, UnknownValue, IsTried, IsWithin, solved}}
use Rattle.candidate_formula.specs.{Formulas.formula_for, Files.{SolvedFiles, RefutedFiles, UnknownFiles, candidate_of}, Pruned.is_cut_away, Searched.searched_question}
use Rattle.candidate_formula.proofs.{BegunFiles.begun_weaker, FilesAlike.{solved_alike, refuted_alike, unknown_alike}}
use Rattle.engine_rules.specs.{declared.settled.Settled.{Settled, TheVariants.{Solved, Refuted, Unknown}}, Outcomes.{RecordValue, IsNew}}
use Rattle.candidate_solver.specs.Kept.{EngineState, HasFiles, KeptAgrees, KeptMoves}
use Rattle.pareto_search.{specs.Recorded.{IsStoppedWithin, StaysWithin, entries_of}, proofs.Entries.{refuted_there, solved_there, unknown_there, with}}
use Rattle.engine_search.proofs.{Searched.{same_formulas, within_alike}, Recorded.was_tried}
use Rattle.report_search.specs.Shelved.{MayHaveBegun}

-- the files of a frontier, where each candidate of its record has them
module _ (f : FrontierValue) (entries : RecordValue) (same : IsPermutation entries (entries_of f)) (part : Part) (q : QuestionValue) (files : Files) (all : All (HasFiles part q files) entries) where
  of_unknown : (u : UnknownValue) → Contains f.unknown u → UnknownFiles part q files u
  of_unknown u at =
      let has = All-contains (HasFiles part q files) entries (with Unknown u.candidate) all (unknown_there f entries same u.candidate (Contains-map (λ (v : UnknownValue). v.candidate) f.unknown u at)) in
      record { formula = has.formula; no_proof = has.no_proof; log = record { lines = has.log.lines; holds = has.log.holds; spent = has.log.spent } }

  each_solved : All (SolvedFiles part q files) (solved f)
  each_solved = all_contained (SolvedFiles part q files) (solved f) (λ x at. All-contains (HasFiles part q files) entries (with Solved x) all (solved_there f entries same x at))

  each_refuted : All (RefutedFiles part q files) f.refuted
  each_refuted = all_contained (RefutedFiles part q files) f.refuted (λ x at. All-contains (HasFiles part q files) entries (with Refuted x) all (refuted_there f entries same x at))

  each_unknown : All (UnknownFiles part q files) f.unknown
  each_unknown = all_contained (UnknownFiles part q files) f.unknown of_unknown

-- ---- as the code has it: of the question that is asked, where the engine has that in its place

module _ (q own : QuestionValue) (in_place : own ≡ searched_question q) (single : kind_in q.spec ≢ kind.Allreduce) where
  pub alike : (x : Candidate) → formula_for own x ≡ formula_for q x
  alike x = ap (λ p. formula_for p x) in_place ∙ same_formulas q x single

  same_limits : own.limits ≡ q.limits
  same_limits = ap (λ (p : QuestionValue). p.limits) in_place

  files_alike : (part : Part) (files : Files) (e : Candidate × Settled) → HasFiles part own files e → HasFiles part q files e
  files_alike part files (x, Solved) has = solved_alike part own q files files x (alike x) (λ k. refl) has
  files_alike part files (x, Refuted) has = refuted_alike part own q files files x (alike x) (λ k. refl) has
  files_alike part files (x, Unknown) has = unknown_alike part own q files files x (alike x) (λ k. refl) q.limits.conflicts same_limits (subst (λ l. UnknownFiles part own files (record { candidate = x; conflicts = l.conflicts })) same_limits has)

-- what an engine leaves: each candidate that it settled has its files, and every other file is as before
pub record IsFiled (part : Part) (q : QuestionValue) (f : FrontierValue) (before after : Files) : Type 0 where
  pub solved : All (SolvedFiles part q after) (solved f)
  pub refuted : All (RefutedFiles part q after) f.refuted
  pub unknown : All (UnknownFiles part q after) f.unknown
  pub others : (name : ProofName) → ((name.part ≡ part) × IsTried f (candidate_of name) → ⊥) → after name ≡ before name

-- a search that ended well leaves the files of what the engine settled
pub filed_for : (q : QuestionValue) {f : FrontierValue} {part : Part} {before after : EngineState} → KeptMoves before after → before.question ≡ searched_question q → kind_in q.spec ≢ kind.Allreduce
    → IsPermutation after.entries (entries_of f) → KeptAgrees after → after.stopped ≡ None → before.part ≡ part → IsTrue after.told → IsFiled part q f before.files after.files
filed_for q {f} {part} {before} {after} moved in_place single permuted agrees running same_part tells = subst (λ x. IsFiled x q f before.files after.files) same_part (record {
  solved = each_solved f after.entries permuted before.part q after.files all;
  refuted = each_refuted f after.entries permuted before.part q after.files all;
  unknown = each_unknown f after.entries permuted before.part q after.files all;
  others = λ name other. elim ((moved.begun tells).each name) [
    | inl stays ↦ stays
    | inr touched ↦ absurd (other (touched.0.of_part, touched_tried name touched.0.of_candidate))
  ];
})
  where
    kept : All (HasFiles before.part before.question after.files) after.entries
    kept = subst (λ x. All (HasFiles x before.question after.files) after.entries) moved.same_part (subst (λ p. All (HasFiles after.part p after.files) after.entries) moved.same_question (agrees tells))

    all : All (HasFiles before.part q after.files) after.entries
    all = All-weaker (HasFiles before.part before.question after.files) (HasFiles before.part q after.files) (files_alike q before.question in_place single before.part after.files) after.entries kept

    touched_tried : (name : ProofName) → ((kind : Settled) × Contains after.entries (with kind (candidate_of name)) × IsNew before.entries (candidate_of name)) ⊎ (after.stopped ≡ Some (candidate_of name)) → IsTried f (candidate_of name)
    touched_tried name (inl settled) = was_tried f after.entries permuted (candidate_of name) settled.0 settled.1
    touched_tried name (inr failed) = let e : None ≡ Some (candidate_of name) = sym running ∙ failed in absurd (cc)

-- the candidate was settled, or the engine failed at it
abbrev pub IsReached : EngineState → Candidate → Type 0
IsReached now x = ((kind : Settled) × Contains now.entries (x, kind)) ⊎ (now.stopped ≡ Some x)

-- whatever a search answered, each file is as before, or belongs to a candidate within the limits that is not cut away and was begun
pub begun_for : (q : QuestionValue) {part : Part} {before after : EngineState} → KeptMoves before after → before.question ≡ searched_question q → kind_in q.spec ≢ kind.Allreduce
    → StaysWithin before.question after.entries after.stopped → ((x : Candidate) → IsReached after x → is_cut_away q x ≡ false) → before.part ≡ part → IsTrue after.told → MayHaveBegun part q before.files after.files
begun_for q {part} {before} {after} moved in_place single stays uncut same_part tells = begun_weaker
    (λ name touched. (
      (
        touched.of_part ∙ same_part,
        (
          (within_alike q (candidate_of name)).0 (subst (λ p. IsWithin p (candidate_of name)) in_place (within name touched.of_candidate)),
          uncut (candidate_of name) (reached name touched.of_candidate),
        ),
      ),
      alike q before.question in_place single (candidate_of name),
    ))
    (moved.begun tells)
  where
    within : (name : ProofName) → ((kind : Settled) × Contains after.entries (with kind (candidate_of name)) × IsNew before.entries (candidate_of name)) ⊎ (after.stopped ≡ Some (candidate_of name)) → IsWithin before.question (candidate_of name)
    within name (inl settled) = All-contains (λ (entry : Candidate × Settled). IsWithin before.question entry.0) after.entries (with settled.0 (candidate_of name)) stays.settled settled.1
    within name (inr failed) = subst (IsStoppedWithin before.question) failed stays.failed

    reached : (name : ProofName) → ((kind : Settled) × Contains after.entries (with kind (candidate_of name)) × IsNew before.entries (candidate_of name)) ⊎ (after.stopped ≡ Some (candidate_of name)) → IsReached after (candidate_of name)
    reached name (inl settled) = inl (settled.0, settled.1)
    reached name (inr failed) = inr failed
