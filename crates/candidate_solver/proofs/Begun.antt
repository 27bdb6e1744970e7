-- Files of a candidate that a call began.
use Rattle.std.proofs.{Common.{arith, ◌≡◌, ◌≢◌, ℕ, List, [], take, drop, refl, ◌∙◌, subst, inl, inr, ⊎_elim, ◌⊎◌, IsTrue, Some, map}, lemmas.{List.take-append-drop, Bool.Decides.nat_tests}}
use Rattle.cnf_formula.specs.{Formulas.FormulaValue, declared.line.LratLine.TheVariants.Addition}
use Rattle.proof_rules.{specs.Held.start_of, proofs.InTurn.implied_accepted}
use Rattle.lrat_text.specs.Printing.{cnf_text}
use Rattle.outer_ports.specs.{declared.{part.Part.Part, proof_name.{FileKind.{FileKind, TheVariants.{Cnf, Lrat, Partial}}, ProofName.ProofName}}, Files.Files, Shelf.OthersStay}
use Rattle.conflict_ledger.specs.Shelved.{IsLogFront, LedgerState, ShelfMoves}
use Rattle.candidate_order.specs.declared.candidate.Candidate.{Candidate}
use Rattle.candidate_formula.{specs.{Files.file_of, Begun.IsBegun}, proofs.BegunFiles.begun_trans}
use Rattle.candidate_solver.{specs.Trying.{IsOwn, BeginsOwn}, proofs.Names.one_or_apart}

-- a file is as before, or was begun
abbrev MayBegin : FormulaValue → Files → Files → ProofName → Type 0
MayBegin f before now name = (now name ≡ before name) ⊎ IsBegun f now name

-- of the candidate's file of a kind
own_file : (f : FormulaValue) (kind : FileKind) (part : Part) (x : Candidate) (before now : Files) (name : ProofName) → name ≡ file_of kind part x → MayBegin f before now (file_of kind part x) → (now name ≡ before name) ⊎ (IsOwn part x name × IsBegun f now name)
own_file f kind part x before now name e own = grind (arith, nat_tests)

-- a call that changes one file of the candidate, and begins it
pub begins_one : (f : FormulaValue) (kind : FileKind) (part : Part) (x : Candidate) (before now : Files) → OthersStay (file_of kind part x) before now → MayBegin f before now (file_of kind part x) → BeginsOwn f part x before now
begins_one f kind part x before now others own = grind (arith, nat_tests, own_file, one_or_apart)

-- a call that changes both files of lines, and begins them
pub begins_both : (f : FormulaValue) (part : Part) (x : Candidate) (before now : Files) → ((name : ProofName) → name ≢ file_of Lrat part x → name ≢ file_of Partial part x → now name ≡ before name)
    → MayBegin f before now (file_of Lrat part x) → MayBegin f before now (file_of Partial part x) → BeginsOwn f part x before now
begins_both f part x before now others lrat partial = grind (arith, nat_tests, own_file, one_or_apart)

-- ---- the file of the formula

-- as a call left it, which was to write this text: as it was before, or a front of the text
pub written : (f : FormulaValue) (part : Part) (x : Candidate) (before now : Files) (name : ProofName) (text : List ℕ) → name ≡ file_of Cnf part x → text ≡ cnf_text f → OthersStay name before now → (now name ≡ before name) ⊎ ((k : ℕ) × (now name ≡ Some (take k text)))
    → BeginsOwn f part x before now
written f part x before now name text own is others front =
    begins_one f Cnf part x before now (subst (λ n. OthersStay n before now) own others)
    (⊎_elim
    (λ e. inl (subst (λ n. now n ≡ before n) own e))
    (λ w. inr (record { bytes = take w.0 text; rest = drop w.0 text; stands = subst (λ n. now n ≡ Some (take w.0 text)) own w.1; begins = take-append-drop w.0 text ∙ is }))
    front)

-- ---- the files of lines

pub none_begun : (f : FormulaValue) (kind : FileKind) (part : Part) (x : Candidate) (now : Files) → kind ≢ Cnf → now (file_of kind part x) ≡ Some [] → IsBegun f now (file_of kind part x)
none_begun f Cnf part x now apart e = absurd (apart refl)
none_begun f Lrat part x now apart e = record { bytes = []; rest = []; stands = e; begins = ([], refl, refl) }
none_begun f Partial part x now apart e = record { bytes = []; rest = []; stands = e; begins = ([], refl, refl) }

lines_begun : (f : FormulaValue) (kind : FileKind) (part : Part) (x : Candidate) (now : Files) → kind ≢ Cnf → IsLogFront f (now (file_of kind part x)) → IsBegun f now (file_of kind part x)
lines_begun f Cnf part x now apart b = absurd (apart refl)
lines_begun f Lrat part x now apart b = record { bytes = b.front; rest = b.rest; stands = b.is; begins = (map Addition b.lines, implied_accepted b.lines (start_of f) b.implied, b.text) }
lines_begun f Partial part x now apart b = record { bytes = b.front; rest = b.rest; stands = b.is; begins = (map Addition b.lines, implied_accepted b.lines (start_of f) b.implied, b.text) }

-- ---- the files of a ledger

lrat_apart : Lrat ≢ Cnf
lrat_apart e = absurd (cc)

partial_apart : Partial ≢ Cnf
partial_apart e = absurd (cc)

-- a ledger that was made, or not, after other calls
pub ledger_made : (f : FormulaValue) (part : Part) (x : Candidate) (start before now : Files) → BeginsOwn f part x start before → ((name : ProofName) → name ≢ file_of Lrat part x → name ≢ file_of Partial part x → now name ≡ before name)
    → ((kind : FileKind) → (now (file_of kind part x) ≡ before (file_of kind part x)) ⊎ (now (file_of kind part x) ≡ Some [])) → BeginsOwn f part x start now
ledger_made f part x start before now so_far others files =
    begun_trans so_far
    (begins_both f part x before now others
    (⊎_elim (λ e. inl e) (λ e. inr (none_begun f Lrat part x now lrat_apart e)) (files Lrat))
    (⊎_elim (λ e. inl e) (λ e. inr (none_begun f Partial part x now partial_apart e)) (files Partial)))

-- a ledger that lines were given to, after other calls
pub ledger_moved : (f : FormulaValue) (part : Part) (x : Candidate) (start : Files) (a b : LedgerState) → BeginsOwn f part x start a.files → a.base ≡ f → a.lrat ≡ file_of Lrat part x → a.partial ≡ file_of Partial part x → ShelfMoves a b → IsTrue b.told → BeginsOwn f part x start b.files
ledger_moved f part x start a b so_far base l p m t =
    begun_trans so_far
    (subst (λ g. BeginsOwn g part x a.files b.files) base
    (begins_both a.base part x a.files b.files
    (λ name other apart. m.others t name (λ e. other (e ∙ l)) (λ e. apart (e ∙ p)))
    (⊎_elim (λ e. inl e) (λ front. inr (lines_begun a.base Lrat part x b.files lrat_apart front)) (subst (λ n. (b.files n ≡ a.files n) ⊎ IsLogFront a.base (b.files n)) l (m.whole_log t)))
    (⊎_elim (λ e. inl e) (λ front. inr (lines_begun a.base Partial part x b.files partial_apart front)) (subst (λ n. (b.files n ≡ a.files n) ⊎ IsLogFront a.base (b.files n)) p (m.learned_log t)))))
