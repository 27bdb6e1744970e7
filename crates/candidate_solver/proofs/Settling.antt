-- The files beside the record, with one candidate more.
use Rattle.std.proofs.{Common.{arith, ◌≡◌, [], ◌∷◌, ◌++◌, get_or, refl, sym, ap, ◌∙◌, subst, inl, inr, ⊎_elim, ◌⊎◌, IsTrue, None, Some, Contains}, lemmas.List.{append-nil, Elements.{All-push, Contains-get_or, Contains-push}}}
use Rattle.std.proofs.lemmas.Bool.Decides.{nat_tests}
use Rattle.outer_ports.specs.{declared.{part.Part.Part, proof_name.{FileKind.FileKind, ProofName.ProofName}}, Port.Tells, Files.Files}
use Rattle.candidate_order.specs.{declared.candidate.Candidate.Candidate, Frontiers.QuestionValue}
use Rattle.candidate_formula.{specs.{Files.{file_of, candidate_of}, Formulas.formula_for, Begun.BegunOnly}, proofs.{BegunFiles.begun_weaker, FilesAlike.{solved_alike, refuted_alike, unknown_alike}}}
use Rattle.engine_rules.specs.{declared.settled.Settled.Settled, Outcomes.IsNew}
use Rattle.engine_rules.specs.declared.settled.Settled.TheVariants as settled
use Rattle.candidate_solver.specs.{Kept.{EngineState, HasFiles, KeptAgrees, IsTouched, KeptMoves}, Trying.BeginsOwn}

-- a candidate whose files stay has them still
has_still : (part : Part) (q : QuestionValue) (before now : Files) (y : Candidate) (kind : Settled) → ((k : FileKind) → now (file_of k part y) ≡ before (file_of k part y)) → HasFiles part q before (y, kind) → HasFiles part q now (y, kind)
has_still part q before now y settled.Solved stay has = solved_alike part q q before now y refl stay has
has_still part q before now y settled.Refuted stay has = refuted_alike part q q before now y refl stay has
has_still part q before now y settled.Unknown stay has = unknown_alike part q q before now y refl stay q.limits.conflicts refl has

-- an engine that settled a candidate
pub record IsSettled (a b : EngineState) (x : Candidate) (kind : Settled) : Type 0 where
  pub part : b.part ≡ a.part
  pub question : b.question ≡ a.question
  pub entries : b.entries ≡ a.entries ++ (x, kind) ∷ []
  pub running : a.stopped ≡ None
  pub new : IsNew a.entries x
  pub tells : Tells a.told b.told
  pub begins : IsTrue b.told → BeginsOwn (formula_for a.question x) a.part x a.files b.files

-- where only the candidate's own files were begun
begun : (a b : EngineState) (x : Candidate) → BeginsOwn (formula_for a.question x) a.part x a.files b.files
    → ((name : ProofName) → candidate_of name ≡ x → ((kind : Settled) × Contains b.entries (candidate_of name, kind) × IsNew a.entries (candidate_of name)) ⊎ (b.stopped ≡ Some (candidate_of name)))
    → BegunOnly (IsTouched a b) (λ name. formula_for a.question (candidate_of name)) a.files b.files
begun a b x own why = begun_weaker (λ name mine. (record { of_part = mine.of_part; of_candidate = why name mine.of_candidate }, ap (formula_for a.question) (sym mine.of_candidate))) own

module _ (a b : EngineState) (x : Candidate) (kind : Settled) (s : IsSettled a b x kind) where
  pub settled_moves : KeptMoves a b
  settled_moves = record {
    same_part = s.part;
    same_question = s.question;
    more = (x, kind) ∷ [];
    added = s.entries;
    stays = λ y e. let never : None ≡ Some y = sym s.running ∙ e in absurd (cc);
    tells = s.tells;
    begun = λ t. begun a b x (s.begins t)
        (λ name e. inl (
          kind,
          subst (λ r. Contains r (candidate_of name, kind)) (sym s.entries) (subst (λ y. Contains (a.entries ++ (x, kind) ∷ []) (y, kind)) (sym e) (Contains-push a.entries (x, kind))),
          subst (IsNew a.entries) (sym e) s.new,
        ));
  }

  -- the files of another candidate stay
  others_stay : IsTrue b.told → (y : Candidate) → (y ≡ x → ⊥) → (k : FileKind) → b.files (file_of k a.part y) ≡ a.files (file_of k a.part y)
  others_stay t y apart k = ⊎_elim (λ e. e) (λ i. absurd (apart i.0.of_candidate)) ((s.begins t).each (file_of k a.part y))

  agrees_more : KeptAgrees a → (IsTrue b.told → HasFiles a.part a.question b.files (x, kind)) → KeptAgrees (record b { part = a.part; question = a.question; entries = a.entries ++ (x, kind) ∷ [] })
  agrees_more agrees has = λ t. All-push (HasFiles a.part a.question b.files) a.entries (x, kind)
      (λ k d w.
      let entry = get_or a.entries k d in
      has_still a.part a.question a.files b.files entry.0 entry.1
      (others_stay t entry.0 (λ e. s.new entry.1 (subst (λ y. Contains a.entries (y, entry.1)) e (Contains-get_or a.entries k d w))))
      (agrees (s.tells t) k d w))
      (has t)

  pub settled_agrees : KeptAgrees a → (IsTrue b.told → HasFiles a.part a.question b.files (x, kind)) → KeptAgrees b
  settled_agrees agrees has = grind (arith, nat_tests, agrees_more)

-- an engine that failed at a candidate, with its record as it was
pub failed_moves : (a b : EngineState) (x : Candidate) → b.part ≡ a.part → b.question ≡ a.question → b.entries ≡ a.entries → a.stopped ≡ None → b.stopped ≡ Some x → Tells a.told b.told → (IsTrue b.told → BeginsOwn (formula_for a.question x) a.part x a.files b.files)
    → KeptMoves a b
failed_moves a b x part question same running failed tells own = record {
  same_part = part;
  same_question = question;
  more = [];
  added = same ∙ sym (append-nil a.entries);
  stays = λ y e. let never : None ≡ Some y = sym running ∙ e in absurd (cc);
  tells = tells;
  begun = λ t. begun a b x (own t) (λ name e. inr (failed ∙ ap Some (sym e)));
}
