-- What the files of a ledger on a shelf become.
use Rattle.std.proofs.{Common.{◌≡◌, ℕ, Bool, true, List, [], ◌∷◌, ◌++◌, take, drop, refl, sym, ap, ◌∙◌, subst, inl, inr, ⊎_elim, ◌≢◌, ◌⊎◌, IsTrue, Some, Contains, map, not}, lemmas.Bool.{false≢true, or_right}}
use Rattle.std.{proofs.lemmas.List.{append-nil, append_assoc, take-append-drop, Folds.list_any_at, Elements.{Contains-append_left, Contains-push, filter-append}}, specs.List.list_any}
use Rattle.cnf_formula.specs.{Literals.{LitValue, is_superset}, Formulas.FormulaValue, Lines.ProofLineValue, declared.line.LratLine.TheVariants.Addition}
use Rattle.proof_rules.specs.{Held.{Entry, CheckerValue, start_of, has_none}, Refuting.{is_fresh, with_line, after_lines}, Learning.AllImplied, Judging.verdict_of, declared.verdict.LineVerdict.TheVariants.Accepted}
use Rattle.proof_rules.proofs.InTurn.{implied_more}
use Rattle.text_lines.specs.Text.{line as text_line}
use Rattle.lrat_text.specs.Printing.{line_words}
use Rattle.outer_ports.specs.{declared.proof_name.ProofName.ProofName, Port.Tells, Files.Files, Shelf.OthersStay}
use Rattle.ledger_rules.specs.Logs.{learned, checker_of}
use Rattle.conflict_ledger.specs.Shelved.{log_text, IsLogFront, LedgerState, ShelfMoves, ShelfAgrees, ShelfMoves-trans}

-- ---- one line more

pub text_more : (lines : List ProofLineValue) (line : ProofLineValue) → log_text (lines ++ line ∷ []) ≡ log_text lines ++ log_text (line ∷ [])
text_more [] line = refl
text_more (l ∷ lines) line =
    let own = text_line (line_words (Addition l)) in
    ap (λ bytes. own ++ bytes) (text_more lines line) ∙ sym (append_assoc own (log_text lines) (log_text (line ∷ [])))

-- the text of a line behind that of those before it
text_added : (lines : List ProofLineValue) (line : ProofLineValue) (text : List ℕ) → text ≡ log_text (line ∷ []) → log_text lines ++ text ≡ log_text (lines ++ line ∷ [])
text_added lines line text e = ap (λ bytes. log_text lines ++ bytes) e ∙ sym (text_more lines line)

-- ---- a fresh clause is learned while nothing closes

still_held : (lines : List ProofLineValue) (c : CheckerValue) (entry : Entry) → Contains c.held entry → Contains (after_lines c (map Addition lines)).held entry
still_held [] c entry i = i
still_held (line ∷ lines) c entry i = still_held lines (with_line c line) entry (Contains-append_left c.held ((line.id, line.lits) ∷ []) entry i)

any_by : (p : Entry → Bool) (xs : List Entry) (x : Entry) → Contains xs x → p x ≡ true → list_any p xs ≡ true
any_by p xs x c h = list_any_at p xs c.0 x c.1 (ap p c.2 ∙ h)

-- where an empty clause is held no clause is fresh
none_fresh : (c : CheckerValue) (clause : List LitValue) (entry : Entry) → Contains c.held entry → entry.1 ≡ [] → is_fresh c clause ≡ true → ⊥
none_fresh c clause entry i e f =
    let s : is_superset clause entry.1 ≡ true = ap (is_superset clause) e in
    false≢true (sym (ap not (or_right (has_none clause) (list_any (λ x. is_superset clause x.1) c.held) (any_by (λ x. is_superset clause x.1) c.held entry i s))) ∙ f)

some_or_none : (clause : List LitValue) → (not (has_none clause) ≡ true) ⊎ (clause ≡ [])
some_or_none [] = inr refl
some_or_none (l ∷ clause) = inl refl

pub all_learned : (lines : List ProofLineValue) (c : CheckerValue) (clause : List LitValue) → is_fresh (after_lines c (map Addition lines)) clause ≡ true → learned lines ≡ lines
all_learned [] c clause f = refl
all_learned (line ∷ lines) c clause f = ⊎_elim
    (λ s. rw s (ap (λ ls. line ∷ ls) (all_learned lines (with_line c line) clause f)))
    (λ e. absurd (none_fresh (after_lines (with_line c line) (map Addition lines)) clause (line.id, line.lits) (still_held lines (with_line c line) (line.id, line.lits) (Contains-push c.held (line.id, line.lits))) e f))
    (some_or_none line.lits)

-- ---- the files

-- what a put of a line's text does to a file that has a log
abbrev pub IsPut : ProofName → Bool → Files → Files → List ℕ → Type 0
IsPut name told files now text = IsTrue told → (before : List ℕ) → files name ≡ Some before → (k : ℕ) × (now name ≡ Some (before ++ take k text))

begun_by : (base : FormulaValue) (lines : List ProofLineValue) (line : ProofLineValue) (name : ProofName) (told : Bool) (files now : Files) (text : List ℕ) → AllImplied (start_of base) (lines ++ line ∷ []) → text ≡ log_text (line ∷ []) → files name ≡ Some (log_text lines) → IsPut name told files now text → IsTrue told → IsLogFront base (now name)
begun_by base lines line name told files now text a e old put t =
    let p = put t (log_text lines) old in
    record {
      lines = lines ++ line ∷ [];
      implied = a;
      front = log_text lines ++ take p.0 text;
      rest = drop p.0 text;
      is = p.1;
      text = append_assoc (log_text lines) (take p.0 text) (drop p.0 text) ∙ ap (λ bytes. log_text lines ++ bytes) (take-append-drop p.0 text) ∙ text_added lines line text e;
    }

-- the same ledger, where the shelf came to this
abbrev pub later : LedgerState → Bool → Files → LedgerState
later x told files = record x { told = told; files = files }

-- the line goes to the log of what was learned
moves_learned : (x : LedgerState) (lines : List ProofLineValue) (line : ProofLineValue) (told : Bool) (files : Files) (text : List ℕ) → AllImplied (start_of x.base) (lines ++ line ∷ []) → text ≡ log_text (line ∷ []) → (IsTrue x.told → x.files x.partial ≡ Some (log_text lines)) → x.lrat ≢ x.partial
    → Tells x.told told → IsPut x.partial told x.files files text → (IsTrue told → OthersStay x.partial x.files files) → ShelfMoves x (later x told files)
moves_learned x lines line told files text a e old apart tells put others = record {
  same_base = refl;
  same_lrat = refl;
  same_partial = refl;
  tells = tells;
  others = λ t name l p. others t name p;
  whole_log = λ t. inl (others t x.lrat apart);
  learned_log = λ t. inr (begun_by x.base lines line x.partial told x.files files text a e (old (tells t)) put t);
}

abbrev pub IsWhole : ProofName → Bool → Files → Files → List ℕ → Type 0
IsWhole name told files now text = IsTrue told → (before : List ℕ) → files name ≡ Some before → now name ≡ Some (before ++ text)

learned_last : (lines : List ProofLineValue) (line : ProofLineValue) → not (has_none line.lits) ≡ true → learned (lines ++ line ∷ []) ≡ learned lines ++ line ∷ []
learned_last lines line s =
    let own : learned (line ∷ []) ≡ line ∷ [] = rw s refl in
    filter-append (λ l. not (has_none l.lits)) lines (line ∷ []) ∙ ap (λ ls. learned lines ++ ls) own

learned_but : (lines : List ProofLineValue) (line : ProofLineValue) → line.lits ≡ [] → learned (lines ++ line ∷ []) ≡ learned lines
learned_but lines line e =
    let own : learned (line ∷ []) ≡ [] = rw e refl in
    filter-append (λ l. not (has_none l.lits)) lines (line ∷ []) ∙ ap (λ ls. learned lines ++ ls) own ∙ append-nil (learned lines)

-- a fresh clause has a literal
fresh_some : (c : CheckerValue) (clause : List LitValue) → is_fresh c clause ≡ true → not (has_none clause) ≡ true
fresh_some c [] h = absurd (false≢true h)
fresh_some c (l ∷ clause) h = refl

-- ---- a line that follows comes to the ledger

module _ (x : LedgerState) (lines : List ProofLineValue) (line : ProofLineValue) (agrees : ShelfAgrees x lines) (apart : x.lrat ≢ x.partial) (follows : verdict_of (checker_of x.base lines) line ≡ Accepted true) where
  all : AllImplied (start_of x.base) (lines ++ line ∷ [])
  all = implied_more lines (start_of x.base) line agrees.implied follows

  -- the line goes to the whole log
  pub moves_whole : (told : Bool) (files : Files) (text : List ℕ) → text ≡ log_text (line ∷ []) → Tells x.told told → IsPut x.lrat told x.files files text → (IsTrue told → OthersStay x.lrat x.files files) → ShelfMoves x (later x told files)
  moves_whole told files text e tells put others = record {
    same_base = refl;
    same_lrat = refl;
    same_partial = refl;
    tells = tells;
    others = λ t name l p. others t name l;
    whole_log = λ t. inr (begun_by x.base lines line x.lrat told x.files files text all e (agrees.whole_log (tells t)) put t);
    learned_log = λ t. inl (others t x.partial (λ e. apart (sym e)));
  }

  -- one that closes goes there alone
  pub agrees_closed : (told : Bool) (files : Files) (text : List ℕ) → line.lits ≡ [] → text ≡ log_text (line ∷ []) → Tells x.told told → IsWhole x.lrat told x.files files text → (IsTrue told → OthersStay x.lrat x.files files) → ShelfAgrees (later x told files) (lines ++ line ∷ [])
  agrees_closed told files text none e tells put others =
      let now : learned (lines ++ line ∷ []) ≡ learned lines = learned_but lines line none in
      record {
        implied = all;
        learned_implied = subst (AllImplied (start_of x.base)) (sym now) agrees.learned_implied;
        whole_log = λ t. put t (log_text lines) (agrees.whole_log (tells t)) ∙ ap Some (text_added lines line text e);
        learned_log = λ t. others t x.partial (λ i. apart (sym i)) ∙ agrees.learned_log (tells t) ∙ ap (λ ls. Some (log_text ls)) (sym now);
      }

  -- one that is learned then goes to the log of what was learned, which had all lines before it
  module _ (fresh : is_fresh (checker_of x.base lines) line.lits ≡ true) (t1 t2 : Bool) (f1 f2 : Files) (text text' : List ℕ) (e : text ≡ log_text (line ∷ [])) (e' : text' ≡ log_text (line ∷ [])) (tells : Tells x.told t1) (others : IsTrue t1 → OthersStay x.lrat x.files f1) (tells' : Tells t1 t2) (others' : IsTrue t2 → OthersStay x.partial f1 f2) where
    same : learned lines ≡ lines
    same = all_learned lines (start_of x.base) line.lits fresh

    old : IsTrue t1 → f1 x.partial ≡ Some (log_text lines)
    old t = others t x.partial (λ i. apart (sym i)) ∙ agrees.learned_log (tells t) ∙ ap (λ ls. Some (log_text ls)) same

    pub moves_both : IsPut x.lrat t1 x.files f1 text → IsPut x.partial t2 f1 f2 text' → ShelfMoves x (later x t2 f2)
    moves_both put put' = ShelfMoves-trans x (later x t1 f1) (later x t2 f2) (moves_whole t1 f1 text e tells put others) (moves_learned (later x t1 f1) lines line t2 f2 text' all e' old apart tells' put' others')

    pub agrees_learned : IsWhole x.lrat t1 x.files f1 text → IsWhole x.partial t2 f1 f2 text' → ShelfAgrees (later x t2 f2) (lines ++ line ∷ [])
    agrees_learned put put' =
        let now : learned (lines ++ line ∷ []) ≡ lines ++ line ∷ [] = learned_last lines line (fresh_some (checker_of x.base lines) line.lits fresh) ∙ ap (λ ls. ls ++ line ∷ []) same in
        record {
          implied = all;
          learned_implied = subst (AllImplied (start_of x.base)) (sym now) all;
          whole_log = λ t. others' t x.lrat apart ∙ put (tells' t) (log_text lines) (agrees.whole_log (tells (tells' t))) ∙ ap Some (text_added lines line text e);
          learned_log = λ t. put' t (log_text lines) (old (tells' t)) ∙ ap Some (text_added lines line text' e' ∙ ap log_text (sym now));
        }
