-- What one call of an engine that takes up refutations changes.
use Rattle.std.proofs.{Common.{◌≡◌, Bool, [], ◌∷◌, ◌++◌, None, Some, refl, sym, ap, ◌∙◌, subst, ⊎_elim, All, Contains, IsTrue}, lemmas.List.Elements.{All-contains, Contains-push_cases, Contains-push}}
use Rattle.list_laws.proofs.Each.{all_contained}
use Rattle.outer_ports.specs.{declared.{part.Part.Part, proof_name.FileKind.{FileKind, TheVariants.{Cnf, Lrat}}}, Files.Files, Port.Tells, Shelf.FilesStay}
use Rattle.candidate_order.specs.{declared.candidate.Candidate.Candidate, Frontiers.QuestionValue}
use Rattle.cnf_formula.specs.Formulas.{FormulaValue}
use Rattle.candidate_formula.{specs.{Formulas.formula_for, Files.{candidate_of, file_of, HasRefutation}}, proofs.BegunFiles.{begun_trans, begun_weaker}}
use Rattle.engine_rules.specs.{declared.settled.Settled.{Settled, TheVariants.Refuted}, Outcomes.{RecordValue, IsNew}}
use Rattle.candidate_solver.{specs.{Kept.{EngineState, HasFiles, KeptAgrees, KeptMoves}, Trying.BeginsOwn}, proofs.Settling.{IsSettled, settled_moves, failed_moves}}
use Rattle.proof_audit.specs.Kept.{BothStay, KeepsEach}
use Rattle.kept_proofs.{proofs.Taken.begins_none, specs.{Keeping.{TakesUpEach, KeepingMoves}, Members.has_entry}}

-- ---- one entry more

-- a new candidate of a record with one entry more is that of the entry
pub pushed_own : (old : RecordValue) {now : RecordValue} (x : Candidate) (kind : Settled) → now ≡ old ++ (x, kind) ∷ [] → (y : Candidate) (k : Settled) → Contains now (y, k) → IsNew old y → y ≡ x
pushed_own old {now} x kind added y k there new = ⊎_elim
    (λ c. absurd (new k c))
    (λ e. sym (ap (λ (p : Candidate × Settled). p.0) e))
    (Contains-push_cases old (x, kind) (y, k) (subst (λ es. Contains es (y, k)) added there))

-- the same record has no new candidate
pub same_own : {old now : RecordValue} (x : Candidate) → now ≡ old → (y : Candidate) (k : Settled) → Contains now (y, k) → IsNew old y → y ≡ x
same_own {old} {now} x same y k there new = absurd (new k (subst (λ es. Contains es (y, k)) same there))

-- ---- the files that the inner engine began

-- it settled one candidate, or failed at it, and began files of that one alone
pub began_own : {a b : EngineState} (x : Candidate) → KeptMoves a b → ((y : Candidate) (k : Settled) → Contains b.entries (y, k) → IsNew a.entries y → y ≡ x) → ((y : Candidate) → b.stopped ≡ Some y → y ≡ x)
    → IsTrue b.told → BeginsOwn (formula_for a.question x) a.part x a.files b.files
began_own {a} {b} x moved settled failed told = begun_weaker
    (λ name touched.
    let is : candidate_of name ≡ x = ⊎_elim (λ e. settled (candidate_of name) e.0 e.1 e.2) (failed (candidate_of name)) touched.of_candidate in
    (record { of_part = touched.of_part; of_candidate = is }, ap (formula_for a.question) is))
    (moved.begun told)

-- ---- the record beside the files

-- each entry of the inner engine has its files, where each of the engine's own has
pub agrees_below : (part : Part) (q : QuestionValue) (files : Files) (inner entries : RecordValue) → ((x : Candidate) (kind : Settled) → (Contains entries (x, kind) → ⊥) → Contains inner (x, kind) → ⊥) → All (HasFiles part q files) entries → All (HasFiles part q files) inner
agrees_below part q files inner entries among all = all_contained (HasFiles part q files) inner (λ e there. ⊎_elim
    (λ c. All-contains (HasFiles part q files) entries e all c)
    (λ none. absurd (among e.0 e.1 none there))
    (has_entry entries e.0 e.1))

-- ---- what is taken up

takes_none : (part : Part) (q : QuestionValue) (old now : RecordValue) (before : Files) → now ≡ old → TakesUpEach part q old now before
takes_none part q old now before same x kind there new has = absurd (new kind (subst (λ es. Contains es (x, kind)) same there))

takes_one : (part : Part) (q : QuestionValue) (old now : RecordValue) (before : Files) (x : Candidate) → now ≡ old ++ (x, Refuted) ∷ [] → TakesUpEach part q old now before
takes_one part q old now before x added y kind there new has =
    subst (λ z. Contains now (z, Refuted)) (sym (pushed_own old x Refuted added y kind there new))
    (subst (λ es. Contains es (x, Refuted)) (sym added) (Contains-push old (x, Refuted)))

takes_searched : (part : Part) (q : QuestionValue) (old now : RecordValue) (before : Files) (x : Candidate) (kind : Settled) → now ≡ old ++ (x, kind) ∷ [] → (HasRefutation part q before x → ⊥) → TakesUpEach part q old now before
takes_searched part q old now before x kind added lacks y k there new has = absurd (lacks (subst (HasRefutation part q before) (pushed_own old x kind added y k there new) has))

-- ---- what is kept

-- where files of one candidate alone were begun, and the two that refuted it stay, those of each that was refuted do
keeps_own : (f : FormulaValue) (part : Part) (q : QuestionValue) (x : Candidate) (before after : Files) → BeginsOwn f part x before after → (HasRefutation part q before x → BothStay part x before after) → KeepsEach part q before after
keeps_own f part q x before after own stay y has = record { formula = stays Cnf (λ both. both.formula); proof = stays Lrat (λ both. both.proof) }
  where
    stays : (kind : FileKind) → (BothStay part y before after → after (file_of kind part y) ≡ before (file_of kind part y)) → after (file_of kind part y) ≡ before (file_of kind part y)
    stays kind file = ⊎_elim
        (λ same. same)
        (λ begun. file (subst (λ z. BothStay part z before after) (sym begun.0.of_candidate) (stay (subst (HasRefutation part q before) begun.0.of_candidate has))))
        (own.each (file_of kind part y))

-- ---- one call

pub failed_keeping : {kept : Bool} {a b : EngineState} (x : Candidate) → b.part ≡ a.part → b.question ≡ a.question → b.entries ≡ a.entries → a.stopped ≡ None → b.stopped ≡ Some x → Tells a.told b.told → (IsTrue b.told → BeginsOwn (formula_for a.question x) a.part x a.files b.files)
    → (IsTrue kept → IsTrue b.told → HasRefutation a.part a.question a.files x → BothStay a.part x a.files b.files) → KeepingMoves kept kept a b
failed_keeping {kept} {a} {b} x part question same running failed tells own stay = record {
  moves = failed_moves a b x part question same running failed tells own;
  same = refl;
  takes = λ k t. takes_none a.part a.question a.entries b.entries a.files same;
  keeps = λ k t. keeps_own (formula_for a.question x) a.part a.question x a.files b.files (own t) (stay k t);
}

-- where one candidate was settled
pub is_settled : {a b : EngineState} (x : Candidate) (kind : Settled) {prepared : RecordValue} → b.part ≡ a.part → b.question ≡ a.question → prepared ≡ a.entries → b.entries ≡ prepared ++ (x, kind) ∷ [] → a.stopped ≡ None → IsNew a.entries x → Tells a.told b.told
    → (IsTrue b.told → BeginsOwn (formula_for a.question x) a.part x a.files b.files) → IsSettled a b x kind
is_settled x kind part question same added running new tells begins = record { part = part; question = question; entries = added ∙ ap (λ es. es ++ (x, kind) ∷ []) same; running = running; new = new; tells = tells; begins = begins }

module _ {kept : Bool} {a b : EngineState} (x : Candidate) where
  pub taken_keeping : IsSettled a b x Refuted → (IsTrue b.told → BothStay a.part x a.files b.files) → KeepingMoves kept kept a b
  taken_keeping settled stay = record {
    moves = settled_moves a b x Refuted settled;
    same = refl;
    takes = λ k t. takes_one a.part a.question a.entries b.entries a.files x settled.entries;
    keeps = λ k t. keeps_own (formula_for a.question x) a.part a.question x a.files b.files (settled.begins t) (λ has. stay t);
  }

  pub searched_keeping : (kind : Settled) → IsSettled a b x kind → (IsTrue kept → IsTrue b.told → HasRefutation a.part a.question a.files x → ⊥) → KeepingMoves kept kept a b
  searched_keeping kind settled lacks = record {
    moves = settled_moves a b x kind settled;
    same = refl;
    takes = λ k t. takes_searched a.part a.question a.entries b.entries a.files x kind settled.entries (lacks k t);
    keeps = λ k t. keeps_own (formula_for a.question x) a.part a.question x a.files b.files (settled.begins t) (λ has. absurd (lacks k t has));
  }

-- what the inner engine began, where no file had changed before it
pub began_behind : {part : Part} {before : Files} {a b : EngineState} (x : Candidate) → KeptMoves a b → a.part ≡ part → FilesStay before a.files → (IsTrue b.told → BeginsOwn (formula_for a.question x) a.part x a.files b.files) → IsTrue b.told → BeginsOwn (formula_for a.question x) part x before b.files
began_behind {part} {before} {a} {b} x moved same stay own told = begun_trans (begins_none (formula_for a.question x) part x before a.files stay) (subst (λ p. BeginsOwn (formula_for a.question x) p x a.files b.files) same (own told))

-- the inner engine holds what it has to, where no file had changed before it
pub agrees_behind : (part : Part) (q : QuestionValue) (before : Files) (a : EngineState) (entries : RecordValue) → a.part ≡ part → a.question ≡ q → FilesStay before a.files → ((x : Candidate) (kind : Settled) → (Contains entries (x, kind) → ⊥) → Contains a.entries (x, kind) → ⊥)
    → All (HasFiles part q before) entries → All (HasFiles a.part a.question a.files) a.entries
agrees_behind part q before a entries same asked stay among all =
    subst (λ files. All (HasFiles a.part a.question files) a.entries) (λ i name. sym (stay name) i)
    (subst (λ p. All (HasFiles p a.question before) a.entries) (sym same)
    (subst (λ (r : QuestionValue). All (HasFiles part r before) a.entries) (sym asked) (agrees_below part q before a.entries entries among all)))

-- the files of the candidate that the inner engine settled
pub has_files_of : {part : Part} {q : QuestionValue} {a b : EngineState} (old : RecordValue) (x : Candidate) (kind : Settled) → KeptMoves a b → b.part ≡ part → b.question ≡ q → b.entries ≡ old ++ (x, kind) ∷ [] → KeptAgrees b → IsTrue b.told → HasFiles part q b.files (x, kind)
has_files_of {part} {q} {a} {b} old x kind moved same asked added agrees told =
    subst (λ p. HasFiles p q b.files (x, kind)) same
    (subst (λ (r : QuestionValue). HasFiles b.part r b.files (x, kind)) asked
    (All-contains (HasFiles b.part b.question b.files) b.entries (x, kind) (agrees told) (subst (λ es. Contains es (x, kind)) (sym added) (Contains-push old (x, kind)))))
